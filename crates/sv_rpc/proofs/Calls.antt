-- Reading a record gives what the definition gives for the record's bytes: a call, or a fault.
use Rattle.std.proofs.Common.{◌≡◌, ◌≢◌, ℕ, ◌≤◌, cond, eqb, List, length, drop, Result, Ok, Err, refl, sym, subst, ◌∙◌, inl, inr}
use Rattle.std.proofs.lemmas.Bool.{cases_Bool, cond-true, cond-false, eqb-true, eqb-false, ne_eqb}
use Rattle.sv_xdr.specs.declared.fault.XdrFault.{XdrFault}
use Rattle.sv_xdr.specs.Spelling.{Unsigned, Opaque, Begins, BeginsAll}
use Rattle.sv_xdr.specs.Reader.{unsigned_at, opaque_at}
use Rattle.sv_xdr.proofs.Fields.{IsBytes, bytes_after, unsigned_reads, unsigned_takes, opaque_reads, opaque_at_takes}
use Rattle.sv_rpc.specs.declared.call.CallFault.{CallFault}
use Rattle.sv_rpc.specs.declared.call.CallFault.TheVariants.{BadHeader, Version}
use Rattle.sv_rpc.specs.Limits.{max_auth}
use Rattle.sv_rpc.specs.Call.{PlainCall, Auth, heading, IsCall, IsOtherVersion, CallIs, ◌>>=◌, body_at, call_at}
use Rattle.sv_rpc.specs.Laws.{OneCall}

-- The encoding of a call is read as this call.
call_reads : (bytes : List ℕ) (call : PlainCall) → IsCall bytes call → call_at bytes ≡ Ok call
unfolding call_at body_at
call_reads bytes call h =
    let xid = h.4 in
    let kind = xid.2 in
    let version = kind.2 in
    let prog = version.2 in
    let vers = prog.2 in
    let proc = vers.2 in
    let flavor = proc.2 in
    let credential = flavor.2 in
    let flavor2 = credential.2 in
    let verifier = flavor2.2 in
    rw (
      unsigned_reads bytes xid.0 call.xid xid.1,
      unsigned_reads xid.0 kind.0 0 kind.1,
      unsigned_reads kind.0 version.0 2 version.1,
      unsigned_reads version.0 prog.0 call.prog prog.1,
      unsigned_reads prog.0 vers.0 call.vers vers.1,
      unsigned_reads vers.0 proc.0 call.proc proc.1,
      unsigned_reads proc.0 flavor.0 h.0.flavor flavor.1,
      opaque_reads max_auth flavor.0 h.0.body credential.0 credential.1 h.2,
      unsigned_reads credential.0 flavor2.0 h.1.flavor flavor2.1,
      opaque_reads max_auth flavor2.0 h.1.body verifier.0 verifier.1 h.3,
      verifier.2,
    ) refl

-- A call under an RPC version other than 2 is reported with its xid.
version_reads : (bytes : List ℕ) (xid : ℕ) → IsOtherVersion bytes xid → call_at bytes ≡ Err (Version xid)
unfolding call_at
version_reads bytes xid h =
    let first = h.3 in
    let kind = first.2 in
    let version = kind.2 in
    rw (
      unsigned_reads bytes first.0 xid first.1,
      unsigned_reads first.0 kind.0 0 kind.1,
      unsigned_reads kind.0 version.0 h.0 version.1,
      ne_eqb h.0 2 h.2,
    ) refl

-- The same bytes are never two different calls, two different faults, or both.
pub one_call : OneCall
one_call bytes (Ok a) (Ok b) h k = sym (call_reads bytes a h) ∙ call_reads bytes b k
one_call bytes (Ok a) (Err (Version n)) h k = sym (call_reads bytes a h) ∙ version_reads bytes n k
one_call bytes (Err (Version m)) (Ok b) h k = sym (version_reads bytes m h) ∙ call_reads bytes b k
one_call bytes (Err (Version m)) (Err (Version n)) h k = sym (version_reads bytes m h) ∙ version_reads bytes n k
one_call bytes (Ok a) (Err BadHeader) h k = absurd (k.0 a h)
one_call bytes (Err (Version m)) (Err BadHeader) h k = absurd (k.1 m h)
one_call bytes (Err BadHeader) (Ok b) h k = absurd (h.0 b k)
one_call bytes (Err BadHeader) (Err (Version n)) h k = absurd (h.1 n k)
one_call bytes (Err BadHeader) (Err BadHeader) h k = refl

-- Any result but the fault `BadHeader`.
abbrev NotBadHeader : Result PlainCall CallFault → Type 0
NotBadHeader r = r ≡ Err BadHeader → ⊥

-- If reading doesn't fail with `BadHeader`, each of its steps succeeded.
step_succeeds : {A : Type 0} (s : Result A XdrFault) (f : A → Result PlainCall CallFault) (r : Result PlainCall CallFault)
    → NotBadHeader r →
    (s >>= f) ≡ r
    → (x : A) × (s ≡ Ok x) × (f x ≡ r)
step_succeeds (Ok x) f r good e = (x, refl, e)
step_succeeds (Err fault) f r good e = absurd (good (sym e))

-- Both cases of a comparison of numbers, for a result that depends on it.
cases_by_number : {P : Type 0} (m n : ℕ) (x y r : Result PlainCall CallFault) → cond (eqb m n) x y ≡ r → (m ≡ n → x ≡ r → P)
    → (m ≢ n → y ≡ r → P) → P
cases_by_number m n x y r e same other =
    elim (cases_Bool (eqb m n)) [
      | inl t ↦ same (eqb-true m n t) (sym (cond-true (eqb m n) x y t) ∙ e)
      | inr f ↦ other (eqb-false m n f) (sym (cond-false (eqb m n) x y f) ∙ e)
    ]

-- If reading doesn't fail, an unsigned integer comes next, and reading goes on after it.
unsigned_step : {P : Type 0} (bytes : List ℕ) (f : ℕ × List ℕ → Result PlainCall CallFault) (r : Result PlainCall CallFault) → IsBytes bytes
    → NotBadHeader r → (unsigned_at bytes >>= f) ≡ r
    → ((n : ℕ) (after : List ℕ) → Begins bytes (Unsigned n) after → IsBytes after → f (n, after) ≡ r → P) → P
unsigned_step bytes f r fits good e then =
    let s = step_succeeds (unsigned_at bytes) f r good e in
    let b = unsigned_takes bytes s.0.1 s.0.0 fits s.1 in
    then s.0.0 s.0.1 b (bytes_after (Unsigned s.0.0) bytes s.0.1 fits b) s.2

-- The same for opaque data.
opaque_step : {P : Type 0} (bytes : List ℕ) (f : List ℕ × List ℕ → Result PlainCall CallFault) (r : Result PlainCall CallFault)
    → IsBytes bytes → NotBadHeader r → (opaque_at max_auth bytes >>= f) ≡ r
    → ((text after : List ℕ) → Begins bytes (Opaque text) after → length text ≤ max_auth → IsBytes after → f (text, after) ≡ r → P) → P
opaque_step bytes f r fits good e then =
    let s = step_succeeds (opaque_at max_auth bytes) f r good e in
    let b = opaque_at_takes max_auth bytes s.0.0 s.0.1 fits s.1 in
    then s.0.0 s.0.1 b.0 b.1 (bytes_after (Opaque s.0.0) bytes s.0.1 fits b.0) s.2

-- A call that is read from the bytes after the RPC version is encoded there.
body_takes : (xid : ℕ) (bytes : List ℕ) (r : Result PlainCall CallFault) → IsBytes bytes → NotBadHeader r → body_at xid bytes ≡ r
    → (call : PlainCall) × (xid ≡ call.xid) × (Ok call ≡ r) × (c v : Auth) × (length c.body ≤ max_auth) × (length v.body ≤ max_auth)
    × BeginsAll bytes (drop 3 (heading call c v)) call.args
unfolding body_at
body_takes xid bytes r fits good e =
    unsigned_step bytes _ r fits good e (λ prog l1 b1 fits1 e1.
    unsigned_step l1 _ r fits1 good e1 (λ vers l2 b2 fits2 e2.
    unsigned_step l2 _ r fits2 good e2 (λ proc l3 b3 fits3 e3.
    unsigned_step l3 _ r fits3 good e3 (λ flavor l4 b4 fits4 e4.
    opaque_step l4 _ r fits4 good e4 (λ body l5 b5 short5 fits5 e5.
    unsigned_step l5 _ r fits5 good e5 (λ kind l6 b6 fits6 e6.
    opaque_step l6 _ r fits6 good e6 (λ text args b7 short7 fits7 e7. (
      record { xid = xid; prog = prog; vers = vers; proc = proc; args = args },
      refl,
      e7,
      record { flavor = flavor; body = body },
      record { flavor = kind; body = text },
      short5,
      short7,
      (l1, b1, (l2, b2, (l3, b3, (l4, b4, (l5, b5, (l6, b6, (args, b7, refl))))))),
    ))))))))

-- A call that is read is encoded there; a reported xid is that of a call under another version.
call_takes : (bytes : List ℕ) (r : Result PlainCall CallFault) → IsBytes bytes → NotBadHeader r → call_at bytes ≡ r → CallIs bytes r
unfolding call_at
call_takes bytes r fits good e =
    unsigned_step bytes _ r fits good e (λ xid l1 b1 fits1 e1.
    unsigned_step l1 _ r fits1 good e1 (λ kind l2 b2 fits2 e2.
    cases_by_number kind 0 _ _ r e2 (λ zero e3.
    let called : Begins l1 (Unsigned 0) l2 = subst (λ (n : ℕ). Begins l1 (Unsigned n) l2) zero b2 in
    unsigned_step l2 _ r fits2 good e3 (λ version l3 b3 fits3 e4.
    cases_by_number version 2 _ _ r e4 (λ two e5.
    let b = body_takes xid l3 r fits3 good e5 in
    let from = subst (λ (n : ℕ). Begins bytes (Unsigned n) l1) b.1 b1 in
    let under = subst (λ (n : ℕ). Begins l2 (Unsigned n) l3) two b3 in
    subst (CallIs bytes) b.2 (b.3, b.4, b.5, b.6, (l1, from, (l2, called, (l3, under, b.7)))))
    (λ other e5. subst (CallIs bytes) e5 (version, l3, other, (l1, b1, (l2, called, (l3, b3, refl)))))))
    (λ other e3. absurd (good (sym e3)))))

outcome_is_right : (bytes : List ℕ) (r : Result PlainCall CallFault) → IsBytes bytes → call_at bytes ≡ r → CallIs bytes r
outcome_is_right bytes (Ok call) fits e = call_takes bytes (Ok call) fits (λ bad. absurd cc) e
outcome_is_right bytes (Err (Version xid)) fits e = call_takes bytes (Err (Version xid)) fits (λ bad. absurd cc) e
outcome_is_right bytes (Err BadHeader) fits e = (
  λ call h. absurd (cc (call_reads bytes call h)),
  λ xid h. absurd (cc (version_reads bytes xid h)),
)

-- For any bytes, the function returns what the definition requires.
pub call_is : (bytes : List ℕ) → IsBytes bytes → CallIs bytes (call_at bytes)
call_is bytes fits = outcome_is_right bytes (call_at bytes) fits refl

-- What the definition says of the bytes is what the function returns.
pub call_at_is_unique : (bytes : List ℕ) (outcome : Result PlainCall CallFault) → IsBytes bytes → CallIs bytes outcome
    → call_at bytes ≡ outcome
call_at_is_unique bytes outcome fits h = one_call bytes (call_at bytes) outcome (call_is bytes fits) h
