-- `deallocate` gives the block back to the inner allocator. Assumes `Logic`.
use Rattle.std.proofs.Common.{◌≡◌, ℕ, ◌+◌, ◌^◌, ◌<◌, List, [], ◌∷◌, refl, w64, Bor}
use seplogic.Ra.Ura.{Ura}
use mir.Syntax.{Ty, Fn, a_type, dnil, dcons}
use mir.Val.{Val, vunit, vint, vptr}
use mir.MapTy.{inst_fn}
use base.Logic.{SProp, ent, id⊢, never_e}
use base.Fml.{Lft, Share, ffalse, ftrue, fsep, flft, froom}
use prog.Memory.{Memory, size, align, capped, up}
use prog.Routine.{Routine}
use prog.Wp.{WpFn, Tables}
use types.Logic.{Logic}
use contract.BorrowLft.{◌⊑◌, ⊑_trans}
use contract.Monad.{Fun, fact}
use contract.Running.{tables, tables_of}
use sound.WpLaws.{fm_of, WpFn-mono}
use types.Run.{stop, fld, addr, no_more, and_then, of_opd, unit_lit, returns, enter}
use types.Kit.{Item, ‵, raw, ◌⊛◌, later, given, prop, Sq, learn, ◌$◌, ◌∵◌, !, qed, by, move, keep, use1, split, split3, join, fsplit, fjoin, feq_i, suffices, await, done}
use types.ByLocal.{alloc_all, pass_all, free_all, look_at, get, through, sets, lands_as}
use denote.Builtin.{usize, RawPtr, RefOf}
use denote.Exit.{yes}
use denote.Opens.{unhide}
use denote.Param.{bounded, param}
use denote.Plain.{uint_vals, uint_Tells}
use denote.RattleType.{owns}
use denote.RawPtr.{Ptr, block_ptr, null_ptr, ptr_val, rawptr_vals, rawptr_Tells}
use denote.Ref.{shr_vals}
use denote.Signature.{Slot, plain, types_at}
use denote.Steps.{heard, nothing}
use denote.Triple.Call.{calls_at}
use denote.Triple.Clauses.{Ended, Clauses}
use denote.Triple.Spec.{triple_of}
use denote.Triple.Statement.{Triple}
use denote.Triple.Table.{entered}
use denote.Triple.Walked.{Stays, stay_dropped, walk_of, ends_at, walked, Goes-dropped, walk_Meets}
use Rattle.std.proofs.alloc.Calls.{Al, α, seen, token, gives_key, Gives, at_gives, Gives-goes, Gives-Gives}
use Rattle.failing_alloc.specs.contracts.FailingAllocator
use Rattle.failing_alloc.specs.contracts.FailingAllocatorAllocator.deallocate as F
use Rattle.failing_alloc.specs.contracts.FailingAllocatorAllocator.deallocate.Key as key
use Rattle.failing_alloc.proofs.FailingAllocatorAllocator.deallocate.Statement.{statement}
use Rattle.failing_alloc.proofs.FailingAllocatorAllocator.deallocate.Code as code

module _ (Z : Al) where
  abbrev here : Fn
  here = inst_fn (bounded (a_type ∷ []) (Z.row, tt) (dcons Z.d (dcons Z.drops dnil))) code.function

  abbrev self : Slot 2
  self = RefOf (0 ∷ []) tt (plain (λ _. FailingAllocator.the_row (param 0 Z.row))) (λ _. tt)

  abbrev pointer : Slot 2
  pointer = plain (λ _. RawPtr)

  abbrev number : Slot 2
  number = plain (λ _. usize)

  abbrev ended : Ended
  ended = F.ended Z.row Z.g Z.d Z.drops

  abbrev stayed : Stays ended.signature.params ended.kept
  stayed = (stay_dropped self yes, (stay_dropped pointer yes, (stay_dropped number yes, (stay_dropped number yes, tt))))

module _ (Z : Al) {M : Type 1} {𝓤 : Ura M} (𝓛 : Logic 𝓤) (mem : Memory → SProp 𝓤) (run : Routine → Fun 𝓤) where
  open 𝓛 use {H}

  abbrev held : Clauses 𝓤 (ended Z)
  held = F.clauses Z.row Z.g Z.d Z.drops 𝓛 mem run

  module _ (κ ρ : Lft) (q s : Share) (within : κ ⊑ ρ) (r : Bor (FailingAllocator.the_row Z.row).Denot) (n a : ℕ) (τ : Ty) where
    abbrev bound : Ptr → (walk_of 𝓛 (ended Z) (stayed Z) held).Ghost
    bound x = (
      (
        (κ, (ρ, tt)),
        (q, (s, tt)),
        (within, tt),
        (r, (x, (n, (a, tt)))),
        (shr_vals r, (rawptr_vals x, (vint w64 n ∷ [], (vint w64 a ∷ [], tt)))),
      ),
      τ,
    )

    abbrev Pre : Ptr → SProp 𝓤
    Pre x = (walk_of 𝓛 (ended Z) (stayed Z) held).pre (bound x)

    abbrev Post : Ptr → Val → SProp 𝓤
    Post x = (walk_of 𝓛 (ended Z) (stayed Z) held).post (bound x)

    abbrev Sized : Type 0
    Sized = (capped (size τ) ≡ n) × (capped (align τ) ≡ a)

    abbrev entry : Ptr → Item 𝓤
    entry x = (‵ (flft κ q) ⊛ ‵ (flft ρ s) ⊛ ‵ ftrue) ⊛ ‵
        (owns (types_at (ended Z).signature.params (bound x).0.0) (bound x).0.3 (bound x).0.4)

    gives_unit : (x : Ptr) → Sq 𝓛 (‵ (flft κ q) ∷ (‵ (flft ρ s) ⊛ ‵ ftrue) ∷ []) (prop (Post x vunit))
    gives_unit x =
        suffices ! _ (ends_at 𝓛 (ended Z) (stayed Z) held (bound x) vunit tt (tt, (tt, (tt, (tt, tt)))) (tt, (tt, (tt, (tt, tt))))) $
        nothing ! $ feq_i ! (List Val) (vunit ∷ []) (vunit ∷ []) refl $
        nothing ! $ nothing ! $ fjoin ! $ nothing ! $ fjoin ! $ nothing ! $ fjoin ! $ nothing ! $ fjoin ! $ join ! $ move !
        (2 ∷ 3 ∷ []) $ join ! $ join ! $ done !

    module _ (𝓣 : Tables 𝓤 𝓛.H) (inner : Triple 𝓤 (𝓣.C (gives_key Z)) (Gives Z 𝓛 mem run)) where
      -- No block is at null.
      walk : n < 2 ^ 64 → a < 2 ^ 64 → (x : Ptr) → ent 𝓤 (Pre x)
          (WpFn 𝓤 H 𝓣.C 𝓣.Λ (here Z) (vptr r.ref_ptr.0 r.ref_ptr.1 ∷ ptr_val x ∷ vint w64 n ∷ vint w64 a ∷ []) (Post x))
      walk fits_n fits_a null_ptr =
          qed 𝓛 (entry null_ptr ∷ (raw (fact 𝓤 (ρ ⊑ Z.row.lives)) ⊛ raw (fact 𝓤 Sized) ⊛ ‵ (fsep ffalse (token Z r.now.inner τ null_ptr)))
          ∷ []) ∵
          move ! (1 ∷ []) $ split3 ! $ move ! (2 ∷ []) $ fsplit ! $ keep ! (0 ∷ []) $ by ! (never_e 𝓤 _)
      walk fits_n fits_a (block_ptr b o) =
          let handle : Z.row.Denot = r.now.inner in
          let at_handle : ℕ × ℕ = (r.ref_ptr.0, r.ref_ptr.1 + up (align (α Z)) 0) in
          let x : Ptr = block_ptr b o in
          let y : (Gives Z 𝓛 mem run).Ghost = at_gives Z 𝓛 mem run κ q at_handle handle b o n a τ in
          qed 𝓛 (entry x ∷ (raw (fact 𝓤 (ρ ⊑ Z.row.lives)) ⊛ raw (fact 𝓤 Sized) ⊛ ‵ (fsep (froom τ b o) (token Z handle τ x))) ∷ []) ∵
          move ! (1 ∷ []) $ split3 ! $ heard ! (ρ ⊑ Z.row.lives) (λ lives. heard ! Sized (λ sized. move ! (1 ∷ []) $
          split ! $ split ! $ move ! (2 ∷ []) $ fsplit ! $ fsplit ! $ move ! (1 ∷ []) $ unhide ! $ fsplit ! $ fsplit ! $
          use1 𝓛 (‵ (seen Z κ at_handle handle)) (id⊢ 𝓤 _) $ keep ! (0 ∷ 5 ∷ 6 ∷ 7 ∷ []) $
          -- The context: the `&` to the handle, the token of κ, the token of ρ, the block.
          enter ! 𝓣.C 𝓣.Λ (here Z) _ _ $ alloc_all !
          (λ l. pass_all ! refl ((tt, tt), ((tt, tt), ((tt, record { fits = fits_n }), ((tt, record { fits = fits_a }), tt)))) $
          sets ! (addr ! (through ! refl (fld ! refl (stop !)))) refl (tt, tt) $
          join ! $ move ! (2 ∷ []) $ fsplit ! $ move ! (1 ∷ 2 ∷ []) $ join ! $ move ! (1 ∷ 0 ∷ []) $ join ! $
          use1 𝓛 (raw ((Gives Z 𝓛 mem run).pre y))
          (Gives-goes Z 𝓛 mem run κ q at_handle handle (⊑_trans κ ρ Z.row.lives within lives) b o n a τ sized.0 sized.1 fits_n fits_a) $
          calls_at ! (fm_of 𝓤 H 𝓛.laws 𝓣) (Gives Z 𝓛 mem run) inner y
          (and_then ! (get ! refl) (and_then ! (get ! refl) (and_then ! (get ! refl) (and_then ! (get ! refl) (no_more !))))) (λ v.
          use1 𝓛 (later (given (v ≡ vunit) (‵ (flft κ q))))
          (Gives-Gives Z 𝓛 mem run κ q at_handle handle b o n a τ v) $ await ! tt $ learn ! (λ is_unit.
          lands_as ! is_unit refl (tt, tt) $ sets ! (of_opd ! (unit_lit !)) refl (tt, tt) $ returns !
          (look_at ! 0 refl) $ free_all ! refl $ gives_unit x)))))

pub deallocate_spec : {M : Type 1} → statement M
unfolding tables_of
deallocate_spec 𝓤 𝓛 𝓜 𝓡 wired Y L g d dd met _ =
    let Z : Al = record { row = Y; laws = L; g = g; d = d; drops = dd } in
    let 𝓣 : Tables 𝓤 𝓛.H = tables_of 𝓤 𝓛.H 𝓜 (tables 𝓤 𝓛.H 𝓜 𝓡 𝓡.env) in
    let c = held Z 𝓛 𝓜.mem 𝓡.returns in
    let usize_goes = Goes-dropped 𝓛 2 (number Z) yes (λ κs x w. refl) in
    entered 𝓤 𝓛.H (triple_of 𝓛 (F.signature Y) (F.spec Y g d dd 𝓛 𝓜.mem 𝓡.returns)) 𝓣.C 𝓣.Λ
    (key.name (bounded (a_type ∷ []) (Y, tt) (dcons d (dcons dd dnil)))) (here Z) (code.unfolded 𝓤 𝓛.H 𝓜 𝓡 wired (Y, tt) d dd)
    (walk_Meets 𝓛 (ended Z) (stayed Z) (
      Goes-dropped 𝓛 2 (self Z) yes (λ κs x w. refl),
      (Goes-dropped 𝓛 2 (pointer Z) yes (λ κs x w. refl), (usize_goes, (usize_goes, tt))),
    ) c (WpFn 𝓤 𝓛.H 𝓣.C 𝓣.Λ (here Z)) (WpFn-mono 𝓤 𝓛.H 𝓛.laws 𝓣 (here Z))
    (walked 𝓛 (ended Z) (stayed Z) c (WpFn 𝓤 𝓛.H 𝓣.C 𝓣.Λ (here Z)) (λ κs. (shr_vals, (rawptr_vals, (uint_vals w64, (uint_vals w64, tt)))))
    (λ κs. ((λ x vs is. is.0), (rawptr_Tells, (uint_Tells w64, (uint_Tells w64, tt)))))
    (λ κs qs bounds x τ are. walk Z 𝓛 𝓜.mem 𝓡.returns κs.0 κs.1.0 qs.0 qs.1.0 bounds.0 x.0 x.1.1.0 x.1.1.1.0 τ 𝓣
    (met.deallocate dd) are.1.1.0.1 are.1.1.1.0.1 x.1.0)))
