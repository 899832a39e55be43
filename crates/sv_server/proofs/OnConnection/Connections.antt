-- Each value that is computed from a connection's state is the one that its acts determine.
use Rattle.std.proofs.Common.{◌≡◌, ◌≢◌, ℕ, zero, suc, ◌≤◌, Bool, true, false, cond, eqb, List, [], ◌∷◌, ◌++◌, length, drop, Option, Some, None, refl, sym, ap, ◌∙◌, arith, inl, inr, eq-eqb}
use Rattle.std.specs.Prelude.{◌||◌, ◌&&◌, ◌-◌, slice_get, is_some, is_none, not, option_map, Result, Ok, Err}
use Rattle.std.proofs.lemmas.Bool.{ne_eqb, cases_eq}
use Rattle.std.specs.Borrow.{Bor}
use Rattle.sv_rpc.specs.declared.record_buf.RpcFault.{RpcFault}
use Rattle.sv_rpc.specs.declared.record_buf.RpcFault.TheVariants.{RecordTooLong}
use Rattle.sv_rpc.specs.Record.{Tail, Header, Data, TooLong, ends_overlong}
use Rattle.sv_rpc.specs.RecordBuf.{room_of, used_by, next_among}
use Rattle.sv_rpc.specs.Stream.{records_of, tail_of}
use Rattle.sv_rpc.proofs.OneReading.{read_alone}
use Rattle.sv_rpc.specs.Limits.{capacity}
use Rattle.sv_history.specs.Act.{ConnAct, CallTaken}
use Rattle.sv_history.specs.Connection.{is_open, next_call, is_idle, is_overlong, is_faulted, room, stream, records_ended, took_no_call, is_busy}
use Rattle.sv_server.specs.Connection.Representation.{Connection, IsConnection}
use Rattle.sv_server.specs.Connection.Inside.NextCall.{kept_next}
use mathlib.Core.Bool.{or_comm}
use Rattle.std.proofs.NetLemmas.Options.{cond_none}

-- ---- lists

abbrev is_empty_list : List (List ℕ) → Bool
is_empty_list [] = true
is_empty_list (r ∷ rs) = false

eqb_suc : (n m : ℕ) → eqb n m ≡ eqb (suc n) (suc m)
eqb_suc n m = elim (cases_eq n m) [
  | inl e ↦ rw (eq-eqb n m e, eq-eqb (suc n) (suc m) (ap suc e)) refl
  | inr ne ↦
      rw (ne_eqb n m ne, ne_eqb (suc n) (suc m) (λ e. ne (omega arith))) refl
]

drop_all_is_empty : (xs : List (List ℕ)) (n : ℕ) → n ≤ length xs → is_empty_list (drop n xs) ≡ eqb n (length xs)
drop_all_is_empty [] zero h = refl
drop_all_is_empty [] (suc n) h = absurd (omega arith)
drop_all_is_empty (x ∷ xs) zero h = sym (ne_eqb 0 (length (x ∷ xs)) (λ e. absurd (omega arith)))
drop_all_is_empty (x ∷ xs) (suc n) h = drop_all_is_empty xs n (omega arith) ∙ eqb_suc n (length xs)

first_of_drop : (xs : List (List ℕ)) (n : ℕ) → slice_get (drop n xs) 0 ≡ slice_get xs n
first_of_drop [] zero = refl
first_of_drop [] (suc n) = refl
first_of_drop (x ∷ xs) zero = refl
first_of_drop (x ∷ xs) (suc n) = first_of_drop xs n

-- Appending to a list that isn't empty keeps its first element.
pub first_kept_by_append : (xs ys : List (List ℕ)) → xs ≢ [] → slice_get (xs ++ ys) 0 ≡ slice_get xs 0
first_kept_by_append [] ys some = absurd (some refl)
first_kept_by_append (x ∷ xs) ys some = refl

pub nonempty_after_append : (xs ys zs : List (List ℕ)) → zs ≡ xs ++ ys → xs ≢ [] → zs ≢ []
nonempty_after_append [] ys zs e some = absurd (some refl)
nonempty_after_append (x ∷ xs) ys zs e some = λ none. absurd (let z = sym none ∙ e in cc)

-- ---- the input

pub records_are : (kept : Connection) (acts : List ConnAct) → IsConnection kept acts
    → kept.input.records ≡ drop (records_ended acts) (records_of (stream acts))
records_are kept acts is = is.input.kept ∙ ap (drop (records_ended acts))
    (read_alone (stream acts) is.input.all kept.input.tail is.input.splits).0

pub tail_is : (kept : Connection) (acts : List ConnAct) → IsConnection kept acts → kept.input.tail ≡ tail_of (stream acts)
tail_is kept acts is = (read_alone (stream acts) is.input.all kept.input.tail is.input.splits).1

few_ended : (kept : Connection) (acts : List ConnAct) → IsConnection kept acts → records_ended acts ≤ length (records_of (stream acts))
few_ended kept acts is =
    omega (arith, is.input.bounded, ap length (read_alone (stream acts) is.input.all kept.input.tail is.input.splits).0)

pub kept_next_is_next : (kept : Connection) (acts : List ConnAct) → IsConnection kept acts → kept_next kept ≡ next_call acts
kept_next_is_next kept acts is =
    ap (λ (b : Bool). cond (b || kept.busy) None (slice_get kept.input.records 0)) is.faulted
    ∙ ap (λ (b : Bool). cond (took_no_call acts || b) None (slice_get kept.input.records 0)) is.busy
    ∙ ap (cond (took_no_call acts || is_busy acts) None)
    (ap (λ (rs : List (List ℕ)). slice_get rs 0) (records_are kept acts is) ∙ first_of_drop (records_of (stream acts)) (records_ended acts))

-- Whether the buffer returns a fault.
abbrev pub is_fault : Result (Option (List ℕ)) RpcFault → Bool
is_fault (Ok found) = false
is_fault (Err RecordTooLong) = true

fault_among : (records : List (List ℕ)) (tail : Tail) → is_fault (next_among records tail) ≡ (ends_overlong tail && is_empty_list records)
fault_among (r ∷ rs) (Header payload header) = refl
fault_among (r ∷ rs) (Data payload missing last) = refl
fault_among (r ∷ rs) TooLong = refl
fault_among [] (Header payload header) = refl
fault_among [] (Data payload missing last) = refl
fault_among [] TooLong = refl

-- A connection is faulted if its buffer returns a fault, or if it took a record that isn't a call.
pub faulted_is : (kept : Connection) (acts : List ConnAct) → IsConnection kept acts
    → (is_fault (next_among kept.input.records kept.input.tail) || kept.faulted) ≡ is_faulted acts
faulted_is kept acts is =
    let left : is_empty_list kept.input.records ≡ eqb (records_ended acts) (length (records_of (stream acts))) =
    ap is_empty_list (records_are kept acts is) ∙ drop_all_is_empty (records_of (stream acts)) (records_ended acts) (few_ended kept acts is)
    in
    or_comm (is_fault (next_among kept.input.records kept.input.tail)) kept.faulted
    ∙ ap (λ (b : Bool). b || is_fault (next_among kept.input.records kept.input.tail)) is.faulted
    ∙ ap (λ (b : Bool). took_no_call acts || b) (fault_among kept.input.records kept.input.tail
    ∙ ap (λ (b : Bool). ends_overlong kept.input.tail && b) left
    ∙ ap (λ (t : Tail). ends_overlong t && eqb (records_ended acts) (length (records_of (stream acts)))) (tail_is kept acts is))

-- A record that is too long is the only fault of the buffer.
any_fault_is_fault : (fault : RpcFault) (answer : Result (Option (List ℕ)) RpcFault) → answer ≡ Err fault → is_fault answer ≡ true
any_fault_is_fault RecordTooLong answer e = ap is_fault e

pub fault_means_faulted : (kept : Connection) (acts : List ConnAct) → IsConnection kept acts → (fault : RpcFault)
    → next_among kept.input.records kept.input.tail ≡ Err fault → true ≡ is_faulted acts
fault_means_faulted kept acts is fault e =
    sym (ap (λ (b : Bool). b || kept.faulted) (any_fault_is_fault fault _ e)) ∙ faulted_is kept acts is

pub overlong_is : (kept : Connection) (acts : List ConnAct) → IsConnection kept acts → ends_overlong kept.input.tail ≡ is_overlong acts
overlong_is kept acts is = ap ends_overlong (tail_is kept acts is)

-- How many bytes may come: none if the connection isn't open.
pub room_is : (kept : Connection) (acts : List ConnAct) → IsConnection kept acts → is_some kept.role ≡ true → room_of kept.input ≡ room acts
room_is kept acts is opened =
    let open_now : is_open acts ≡ true = ap is_some (sym is.role) ∙ opened in
    rw open_now (ap (λ (rs : List (List ℕ)). capacity - used_by rs kept.input.tail) (records_are kept acts is)
    ∙ ap (λ (t : Tail). capacity - used_by (drop (records_ended acts) (records_of (stream acts))) t) (tail_is kept acts is))

pub no_room : (kept : Connection) (acts : List ConnAct) → IsConnection kept acts → kept.role ≡ None → 0 ≡ room acts
no_room kept acts is shut =
    let shut_now : is_open acts ≡ false = ap is_some (sym is.role ∙ shut) in rw shut_now refl

-- ---- a call that is taken

pub took_call : (kept : Connection) (acts : List ConnAct) (call : List ℕ) → IsConnection kept acts → next_call acts ≡ Some call
    → IsConnection (record kept { busy = true }) (CallTaken call ∷ acts)
took_call kept acts call is next = record {
  role = is.role;
  input = is.input;
  output = is.output;
  bounded = is.bounded;
  faulted = is.faulted;
  busy = refl;
  call = λ busy. (cond_none (kept.faulted || kept.busy) _ call (kept_next_is_next kept acts is ∙ next)).1;
}

-- No call is found exactly if the connection is idle.
pub idle_if_none_found : (found : Option (Bor (List ℕ))) (none : Bool) (acts : List ConnAct) → is_some found ≡ not none
    → option_map (λ call. call.now) found ≡ next_call acts → none ≡ is_idle acts
idle_if_none_found None true acts told e = ap is_none e
idle_if_none_found None false acts told e = absurd cc
idle_if_none_found (Some call) true acts told e = absurd cc
idle_if_none_found (Some call) false acts told e = ap is_none e
