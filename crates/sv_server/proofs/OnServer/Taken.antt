-- After every act, each suspended call of the queue was taken and has no reply yet.
use Rattle.std.proofs.Common.{◌≡◌, ◌≢◌, ℕ, false, eqb, List, [], ◌∷◌, ◌++◌, Option, Some, None, sym, ap, subst, ◌∙◌, inl, inr}
use Rattle.std.specs.Prelude.{map}
use Rattle.std.specs.List.{AllByRecursion}
use Rattle.std.proofs.lemmas.Bool.{cases_eq, cases_Bool, eqb-true, eqb-false}
use Rattle.sv_links.specs.declared.waiting.Entry.{Entry}
use Rattle.sv_links.specs.declared.waiting.Wait.{Wait}
use Rattle.sv_links.specs.Queue.{without, anew, entry_of}
use Rattle.sv_history.specs.Act.{Act, of}
use Rattle.sv_history.specs.Connection.{pending_call}
use Rattle.sv_history.specs.Request.{core_call}
use Rattle.sv_history.specs.CoreCall.{creates_link}
use Rattle.sv_server.specs.Server.State.{IsTaken}

-- Acts of other connections leave the call of an entry.
taken_after_other_act : (log new : List Act) (entry : Entry) → of entry.conn new ≡ of entry.conn log → IsTaken log entry → IsTaken new entry
taken_after_other_act log new entry same (call, known, makes) = (call, ap pending_call same ∙ known, makes)

-- One connection acts, and its call stays pending.
pub taken_after_act : (c : ℕ) (log new : List Act) (entries : List Entry) → ((d : ℕ) → d ≢ c → of d new ≡ of d log)
    → ((call : List ℕ) → pending_call (of c log) ≡ Some call → pending_call (of c new) ≡ Some call)
    → AllByRecursion (IsTaken log) entries → AllByRecursion (IsTaken new) entries
taken_after_act c log new [] others mine all = tt
taken_after_act c log new (entry ∷ entries) others mine all = (
  elim (cases_eq entry.conn c) [
    | inl e ↦ let known : pending_call (of c log) ≡ Some all.0.0 = subst (λ d. pending_call (of d log) ≡ Some all.0.0) e all.0.1 in
        (all.0.0, subst (λ d. pending_call (of d new) ≡ Some all.0.0) (sym e) (mine all.0.0 known), all.0.2)
    | inr ne ↦ taken_after_other_act log new entry (others entry.conn ne) all.0
  ],
  taken_after_act c log new entries others mine all.1,
)

-- The call of one connection leaves the queue.
pub taken_after_leaving : (c : ℕ) (log new : List Act) (entries : List Entry) → ((d : ℕ) → d ≢ c → of d new ≡ of d log)
    → AllByRecursion (IsTaken log) entries → AllByRecursion (IsTaken new) (without c entries)
taken_after_leaving c log new [] others all = tt
taken_after_leaving c log new (entry ∷ entries) others all = elim (cases_Bool (eqb entry.conn c)) [
  | inl e ↦ rw e (taken_after_leaving c log new entries others all.1)
  | inr e ↦
      rw e (
        taken_after_other_act log new entry (others entry.conn (eqb-false entry.conn c e)) all.0,
        taken_after_leaving c log new entries
            others all.1,
      )
]

-- A call is appended to the queue.
pub taken_after_append : (log : List Act) (entries : List Entry) (entry : Entry) → AllByRecursion (IsTaken log) entries → IsTaken log entry
    → AllByRecursion (IsTaken log) (entries ++ entry ∷ [])
taken_after_append log [] entry all one = (one, tt)
taken_after_append log (first ∷ entries) entry all one = (all.0, taken_after_append log entries entry all.1 one)

-- A call that isn't create_link waits again at its place in the queue.
pub taken_anew : (c : ℕ) (wait : Wait) (deadline : Option ℕ) (log new : List Act) (entries : List Entry) → ((d : ℕ) → of d new ≡ of d log)
    → ((call : List ℕ) → pending_call (of c log) ≡ Some call → creates_link (core_call call) ≡ false)
    → AllByRecursion (IsTaken log) entries → AllByRecursion (IsTaken new) (map (anew c wait deadline) entries)
taken_anew c wait deadline log new [] same other all = tt
taken_anew c wait deadline log new (entry ∷ entries) same other all = (
  elim (cases_Bool (eqb entry.conn c)) [
    | inl e ↦
        let known : pending_call (of c log) ≡ Some all.0.0 =
        subst (λ d. pending_call (of d log) ≡ Some all.0.0) (eqb-true entry.conn c e) all.0.1 in
        rw e (all.0.0, ap pending_call (same entry.conn) ∙ all.0.1, λ makes. absurd (let z = sym makes ∙ other all.0.0 known in cc))
    | inr e ↦ rw e (taken_after_other_act log new entry (same entry.conn) all.0)
  ],
  taken_anew c wait deadline log new entries same other all.1,
)

-- What holds for all entries holds for the entry of a connection.
abbrev option_holds : (P : Entry → Type 0) → Option Entry → Type 0
option_holds P (Some entry) = P entry
option_holds P None = ⊥

pub holds_for_entry : (P : Entry → Type 0) (c : ℕ) (entries : List Entry) (entry : Entry) → AllByRecursion P entries
    → entry_of c entries ≡ Some entry → P entry
holds_for_entry P c [] entry all e = absurd cc
holds_for_entry P c (first ∷ entries) entry all e = elim (cases_Bool (eqb first.conn c)) [
  | inl at ↦ let same : Some first ≡ Some entry = rw at at e in subst (λ (o : Option Entry). option_holds P o) same all.0
  | inr at ↦ holds_for_entry P c entries entry all.1 (rw at at e)
]
