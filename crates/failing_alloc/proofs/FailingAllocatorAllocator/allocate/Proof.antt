-- `allocate` counts one allocation. The refused one returns an error and allocates nothing; any
-- other returns what the inner allocator returns. Assumes `Logic`.
use Rattle.std.proofs.Common.{◌≡◌, ℕ, ◌+◌, ◌^◌, ◌<◌, Bool, true, false, [], ◌∷◌, Ok, Err, refl, w64, Bor}
use Rattle.std.proofs.VecSteps.Shapes.{after}
use seplogic.Ra.Ura.{Ura}
use mir.Syntax.{Ty, Fn, a_type, dnil, dcons}
use mir.Val.{Val, vbool, vint, vptr}
use mir.MapTy.{inst_fn}
use base.Logic.{SProp, ent, id⊢}
use base.Fml.{Lft, Share, ftrue, flft, froom}
use prog.Memory.{Memory, size, align, capped, up}
use prog.Routine.{Routine}
use prog.Wp.{WpFn, Tables}
use types.Logic.{Logic}
use contract.BorrowLft.{◌⊑◌, ⊑_trans}
use contract.Monad.{Fun, fact}
use contract.Running.{tables, tables_of}
use sound.WpLaws.{fm_of, WpFn-mono}
use types.Part.{agg}
use types.Run.{stop, fld, addr, lit, no_more, and_then, first, branches, skips, exec, returns, returns_within, enter}
use types.Kit.{‵, raw, ◌⊛◌, some, later, given, prop, at_ret, Sq, learn, pick, ◌$◌, ◌∵◌, !, qed, move, keep, use0, use1, use2, split, join, fsplit, fjoin, suffices, await, done}
use types.ByLocal.{alloc_all, pass_all, free_all, look_at, get, through, sets, lands_as, env}
use denote.Builtin.{usize, RefOf}
use denote.Exit.{yes}
use denote.Opens.{unhide}
use denote.Param.{bounded, param}
use denote.Plain.{uint_vals, uint_Tells}
use denote.RattleType.{owns}
use denote.RawPtr.{block_ptr}
use denote.Ref.{shr_vals}
use denote.Signature.{Slot, plain, types_at}
use denote.Steps.{heard, nothing}
use denote.Triple.Call.{calls_at}
use denote.Triple.Clauses.{Ended, Clauses}
use denote.Triple.Spec.{triple_of}
use denote.Triple.Statement.{Triple}
use denote.Triple.Table.{entered, cited}
use denote.Triple.Walked.{Stays, stay_dropped, walk_of, ends_at, walked, Goes-dropped, walk_Meets}
use Rattle.std.proofs.alloc.Calls.{Al, α, seen, token, Answer, answer_val, Answer-typed, Answer-Ok, Answer-err, takes_key, Takes, at_takes, Answered, Takes-goes, Takes-gives, answers}
use Rattle.failing_alloc.proofs.Turn.{Asks, asks_at, asks, answers_bool}
use Rattle.failing_alloc.proofs.take_turn.Symbol as turn
use Rattle.failing_alloc.proofs.take_turn.Met as turn_met
use Rattle.failing_alloc.specs.contracts.FailingAllocator
use Rattle.failing_alloc.specs.contracts.FailingAllocatorAllocator.allocate as F
use Rattle.failing_alloc.specs.contracts.FailingAllocatorAllocator.allocate.Key as key
use Rattle.failing_alloc.proofs.FailingAllocatorAllocator.allocate.Statement.{statement}
use Rattle.failing_alloc.proofs.FailingAllocatorAllocator.allocate.Code as code

module _ (Z : Al) where
  abbrev here : Fn
  here = inst_fn (bounded (a_type ∷ []) (Z.row, tt) (dcons Z.d (dcons Z.drops dnil))) code.function

  abbrev self : Slot 2
  self = RefOf (0 ∷ []) tt (plain (λ _. FailingAllocator.the_row (param 0 Z.row))) (λ _. tt)

  abbrev number : Slot 2
  number = plain (λ _. usize)

  abbrev ended : Ended
  ended = F.ended Z.row Z.g Z.d Z.drops

  abbrev stayed : Stays ended.signature.params ended.kept
  stayed = (stay_dropped self yes, (stay_dropped number yes, (stay_dropped number yes, tt)))

module _ (Z : Al) {M : Type 1} {𝓤 : Ura M} (𝓛 : Logic 𝓤) (mem : Memory → SProp 𝓤) (run : Routine → Fun 𝓤) where
  open 𝓛 use {H}

  abbrev held : Clauses 𝓤 (ended Z)
  held = F.clauses Z.row Z.g Z.d Z.drops 𝓛 mem run

  module _ (κ ρ : Lft) (q s : Share) (within : κ ⊑ ρ) (r : Bor (FailingAllocator.the_row Z.row).Denot) (n a : ℕ) (τ : Ty) where
    abbrev bound : (walk_of 𝓛 (ended Z) (stayed Z) held).Ghost
    bound = (((κ, (ρ, tt)), (q, (s, tt)), (within, tt), (r, (n, (a, tt))), (shr_vals r, (vint w64 n ∷ [], (vint w64 a ∷ [], tt)))), τ)

    abbrev Post : Val → SProp 𝓤
    Post = (walk_of 𝓛 (ended Z) (stayed Z) held).post bound

    -- The return with an error.
    gives_none : Sq 𝓛 (‵ (flft κ q) ∷ (‵ (flft ρ s) ⊛ ‵ ftrue) ∷ []) (prop (Post (answer_val false 0 0)))
    gives_none =
        suffices ! _ (ends_at 𝓛 (ended Z) (stayed Z) held bound (answer_val false 0 0) (Err (record {})) (tt, (tt, (tt, tt)))
        (tt, (tt, (tt, tt)))) $
        nothing ! $ use0 𝓛 (‵ (Answer.own_val (Err (record {})) (answer_val false 0 0 ∷ []))) (Answer-err 𝓛) $
        nothing ! $ nothing ! $ fjoin ! $ nothing ! $ fjoin ! $ nothing ! $ fjoin ! $ join ! $ move !
        (2 ∷ 3 ∷ []) $ join ! $ join ! $ done !

    -- The return with the block that the inner allocator gave.
    gives_block : (b o : ℕ) → Sq 𝓛 (‵ (froom τ b o) ∷ ‵ (token Z r.now.inner τ (block_ptr b o)) ∷ ‵ (flft κ q) ∷ (‵ (flft ρ s) ⊛ ‵ ftrue)
        ∷ []) (prop (Post (answer_val true b o)))
    gives_block b o =
        suffices ! _ (ends_at 𝓛 (ended Z) (stayed Z) held bound (answer_val true b o) (Ok (block_ptr b o)) (tt, (tt, (tt, tt)))
        (tt, (tt, (tt, tt)))) $
        fjoin ! $ use0 𝓛 (‵ (Answer.own_val (Ok (block_ptr b o)) (answer_val true b o ∷ []))) (Answer-Ok 𝓛 b o) $
        nothing ! $ nothing ! $ fjoin ! $ nothing ! $ fjoin ! $ nothing ! $ fjoin ! $ join ! $ move !
        (2 ∷ 3 ∷ []) $ join ! $ join ! $ done !

    module _ (𝓣 : Tables 𝓤 𝓛.H) (inner : Triple 𝓤 (𝓣.C (takes_key Z)) (Takes Z 𝓛 mem run))
        (counts : Triple 𝓤 (𝓣.C turn.name) (Asks 𝓛 mem run)) where
      walk : n < 2 ^ 64 → a < 2 ^ 64
          → ent 𝓤 ((walk_of 𝓛 (ended Z) (stayed Z) held).pre bound)
          (WpFn 𝓤 H 𝓣.C 𝓣.Λ (here Z) (vptr r.ref_ptr.0 r.ref_ptr.1 ∷ vint w64 n ∷ vint w64 a ∷ []) Post)
      walk fits_n fits_a =
          let handle : Z.row.Denot = r.now.inner in
          let at_handle : ℕ × ℕ = (r.ref_ptr.0, r.ref_ptr.1 + up (align (α Z)) 0) in
          let at_left : ℕ × ℕ = (r.ref_ptr.0, r.ref_ptr.1 + up 8 (up (align (α Z)) 0 + size (α Z))) in
          let Sized : Type 0 = (capped (size τ) ≡ n) × (capped (align τ) ≡ a) in
          qed 𝓛 (((‵ (flft κ q) ⊛ ‵ (flft ρ s) ⊛ ‵ ftrue) ⊛ ‵ (owns (types_at (ended Z).signature.params bound.0.0) bound.0.3 bound.0.4))
          ∷ (raw (fact 𝓤 (ρ ⊑ Z.row.lives)) ⊛ raw (fact 𝓤 Sized)) ∷ []) ∵
          move ! (1 ∷ []) $ split ! $ heard ! (ρ ⊑ Z.row.lives) (λ lives. heard ! Sized (λ sized.
          split ! $ split ! $ move ! (2 ∷ []) $ fsplit ! $ fsplit ! $ move ! (1 ∷ []) $ unhide ! $ fsplit ! $ fsplit ! $
          use1 𝓛 (‵ (seen Z κ at_handle handle)) (id⊢ 𝓤 _) $ move ! (1 ∷ []) $ fsplit ! $ keep ! (0 ∷ 6 ∷ 2 ∷ 7 ∷ []) $
          -- The context: the `&` to the cell, the token of κ, the `&` to the handle, the token of
          -- ρ.
          enter ! 𝓣.C 𝓣.Λ (here Z) _ _ $ alloc_all !
          (λ l. pass_all ! refl ((tt, tt), ((tt, record { fits = fits_n }), ((tt, record { fits = fits_a }), tt))) $
          sets ! (addr ! (through ! refl (fld ! refl (stop !)))) refl (tt, tt) $
          use2 𝓛 (raw ((Asks 𝓛 mem run).pre (asks_at 𝓛 mem run κ q at_left))) (asks 𝓛 mem run κ q at_left) $
          calls_at ! (fm_of 𝓤 H 𝓛.laws 𝓣) (Asks 𝓛 mem run) counts (asks_at 𝓛 mem run κ q at_left) (and_then ! (get ! refl) (no_more !))
          (λ u.
          use1 𝓛 (later (some (λ (x : Bool). given (u ≡ vbool x) (‵ (flft κ q)))))
          (answers_bool 𝓛 mem run κ q at_left u) $ await ! tt $ pick ! (λ last. learn ! (λ is_last.
          lands_as ! is_last refl (tt, tt) $
          -- The context: the token of κ, the `&` to the handle, the token of ρ.
          first ! $ branches ! (get ! refl)
          (λ refused. sets ! (agg ! (no_more !)) refl (tt, tt) $
          sets ! (agg ! (and_then ! (lit ! tt) (and_then ! (get ! refl) (no_more !)))) refl (Answer-typed false 0 0) $
          returns_within ! Post refl (look_at ! 0 refl) $ free_all ! refl $ keep ! (0 ∷ 2 ∷ []) $ gives_none)
          (λ passed. skips ! $ exec ! 𝓣.C 𝓣.Λ (env (here Z).locals l) (after 3 (here Z).body) (at_ret _ Post) $
          sets ! (addr ! (through ! refl (fld ! refl (stop !)))) refl (tt, tt) $ move ! (1 ∷ []) $
          use2 𝓛 (raw ((Takes Z 𝓛 mem run).pre (at_takes Z 𝓛 mem run κ q at_handle handle n a τ)))
          (Takes-goes Z 𝓛 mem run κ q at_handle handle (⊑_trans κ ρ Z.row.lives within lives) n a τ sized.0 sized.1 fits_n fits_a) $
          calls_at ! (fm_of 𝓤 H 𝓛.laws 𝓣) (Takes Z 𝓛 mem run) inner (at_takes Z 𝓛 mem run κ q at_handle handle n a τ)
          (and_then ! (get ! refl) (and_then ! (get ! refl) (and_then ! (get ! refl) (no_more !)))) (λ v.
          use1 𝓛 (later (raw (Answered Z 𝓛 mem run handle τ v) ⊛ ‵ (flft κ q)))
          (Takes-gives Z 𝓛 mem run κ q at_handle handle n a τ v) $ await ! tt $ split ! $
          answers Z ! mem run handle τ v
          (λ b o is_block. lands_as ! is_block refl (Answer-typed true b o) $ returns !
          (look_at ! 0 refl) $ free_all ! refl $ gives_block b o)
          (λ is_none. lands_as ! is_none refl (Answer-typed false 0 0) $ returns !
          (look_at ! 0 refl) $ free_all ! refl $ gives_none)))))))))

pub allocate_spec : {M : Type 1} → statement M
unfolding tables_of
allocate_spec 𝓤 𝓛 𝓜 𝓡 wired Y L g d dd met _ =
    let Z : Al = record { row = Y; laws = L; g = g; d = d; drops = dd } in
    let 𝓣 : Tables 𝓤 𝓛.H = tables_of 𝓤 𝓛.H 𝓜 (tables 𝓤 𝓛.H 𝓜 𝓡 𝓡.env) in
    let c = held Z 𝓛 𝓜.mem 𝓡.returns in
    let counts : Triple 𝓤 (𝓣.C turn.name) (Asks 𝓛 𝓜.mem 𝓡.returns) =
    cited 𝓤 𝓛.H _ 𝓜 𝓡 𝓡.env turn.name (𝓡.env turn.name) refl (turn_met.met 𝓤 𝓛 𝓜 𝓡 (code.calls-failing_alloc::take_turn 𝓡.env wired)) in
    let usize_goes = Goes-dropped 𝓛 2 (number Z) yes (λ κs x w. refl) in
    entered 𝓤 𝓛.H (triple_of 𝓛 (F.signature Y) (F.spec Y g d dd 𝓛 𝓜.mem 𝓡.returns)) 𝓣.C 𝓣.Λ
    (key.name (bounded (a_type ∷ []) (Y, tt) (dcons d (dcons dd dnil)))) (here Z) (code.unfolded 𝓤 𝓛.H 𝓜 𝓡 wired (Y, tt) d dd)
    (walk_Meets 𝓛 (ended Z) (stayed Z) (Goes-dropped 𝓛 2 (self Z) yes (λ κs x w. refl), (usize_goes, (usize_goes, tt))) c
    (WpFn 𝓤 𝓛.H 𝓣.C 𝓣.Λ (here Z)) (WpFn-mono 𝓤 𝓛.H 𝓛.laws 𝓣 (here Z))
    (walked 𝓛 (ended Z) (stayed Z) c (WpFn 𝓤 𝓛.H 𝓣.C 𝓣.Λ (here Z)) (λ κs. (shr_vals, (uint_vals w64, (uint_vals w64, tt))))
    (λ κs. ((λ x vs is. is.0), (uint_Tells w64, (uint_Tells w64, tt))))
    (λ κs qs bounds x τ are. walk Z 𝓛 𝓜.mem 𝓡.returns κs.0 κs.1.0 qs.0 qs.1.0 bounds.0 x.0 x.1.0 x.1.1.0 τ 𝓣
    (met.allocate dd) counts are.1.0.1 are.1.1.0.1)))
