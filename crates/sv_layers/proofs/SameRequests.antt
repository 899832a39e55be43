-- The status byte's own log and the instrument's log agree on requests for service and on the bits
-- of the status byte.
use Rattle.std.proofs.Common.{◌≡◌, ◌≢◌, ℕ, List, [], ◌∷◌, refl, ap, sym, ◌∙◌, ◌⊎◌, inl, inr, arith}
use Rattle.std.specs.Prelude.{◌↔◌}
use Rattle.std.specs.Int.{bit_at}
use Rattle.sv_logs.proofs.Since.{since_empty, since_step}
use Rattle.sv_status.specs.declared.status_byte.StatusAct.{StatusAct}
use Rattle.sv_status.specs.declared.status_byte.StatusAct.TheVariants.{Update, Poll}
use Rattle.sv_status.specs.StatusByte as status
use Rattle.sv_status.proofs.StatusBytes.{request_none, request_updated, request_polled}
use Rattle.sv_layers.specs.Act.{Act, Polled}
use Rattle.sv_layers.specs.StatusByte.{SummaryBit, service, ServiceRequested, Master, Reason, Lasts, Request, IsRaised}
use Rattle.sv_layers.specs.Inside.LayerLogs.{layer_logs}
use Rattle.sv_layers.specs.Inside.Representation.{IsSummary, IsStatus, own_status}
use Rattle.sv_layers.specs.Laws.{SameRequests, SameStatus}
use Rattle.sv_layers.proofs.Projected.{projected}
use Rattle.sv_layers.proofs.SameSummaries.{same_summaries, no_summary}
use Rattle.sv_layers.proofs.NothingAtPoll.{requested_before_poll, poll_ends_request}

-- The act isn't a poll: it adds no poll to the status byte's log, and a pending request lasts
-- exactly if the master summary is set after it.
abbrev IsOther : Act → Type 0
IsOther act = ((status_log : List StatusAct) → own_status act status_log ≡ status_log)
    × ((log : List Act) → Lasts (act ∷ log) ↔ Master (act ∷ log))

-- A proof for all acts, by case: a poll, or any other act.
by_poll_or_other : (P : Act → Type 0) → P Polled → ((act : Act) → IsOther act → P act) → (act : Act) → P act
by_poll_or_other P polled other Polled = polled
by_poll_or_other P polled other _ = other _ ((λ status_log. refl), (λ log. ((λ m. m), (λ m. m))))

-- The last update has the summary bits and the enable that the instrument's log determines.
update_has_summary_bits : (log : List Act) (status_log : List StatusAct) → IsStatus log status_log → (k : ℕ)
    → (bit_at (status.bits status_log) k ≡ 1) ↔ SummaryBit k log
update_has_summary_bits [] status_log is k = rw is (same_summaries 0 [] no_summary k)
update_has_summary_bits (act ∷ log) status_log (word, before, summary, is, made) k = rw made (same_summaries word (act ∷ log) summary k)

update_has_enable : (log : List Act) (status_log : List StatusAct) → IsStatus log status_log → status.enable status_log ≡ service log
update_has_enable [] status_log is = rw is refl
update_has_enable (act ∷ log) status_log (word, before, summary, is, made) = rw made (projected (act ∷ log)).3

-- Bit 6 isn't a summary bit.
not_six : (k : ℕ) (log : List Act) → SummaryBit k log → k ≢ 6
not_six k log bit six = grind (arith, bit, six)

update_requests_service : (log : List Act) (status_log : List StatusAct) → IsStatus log status_log → (k : ℕ)
    → status.ServiceRequestedAt k status_log ↔ ServiceRequested k log
update_requests_service log status_log is k =
    let bits = update_has_summary_bits log status_log is k in
    let enable = update_has_enable log status_log is in (
      (λ h. (bits.0 h.1, ap (λ (w : ℕ). bit_at w k) (sym enable) ∙ h.2)),
      (λ h. (not_six k log h.0, bits.1 h.0, ap (λ (w : ℕ). bit_at w k) enable ∙ h.1)),
    )

update_has_master : (log : List Act) (status_log : List StatusAct) → IsStatus log status_log → status.Master status_log ↔ Master log
update_has_master log status_log is = (
  (λ m. (m.0, (update_requests_service log status_log is m.0).0 m.1)),
  (λ m. (m.0, (update_requests_service log status_log is m.0).1 m.1)),
)

-- If the logs agree on whether a request is pending before the act, they agree after it.
abbrev RequestStep : Act → Type 0
RequestStep act = (log : List Act) (word : ℕ) (before : List StatusAct) → IsSummary word (layer_logs (act ∷ log)) → IsStatus log before
    → status.Request before ↔ Request log
    → status.Request (Update word (layer_logs (act ∷ log)).service ∷ own_status act before) ↔ Request (act ∷ log)

polled_step : RequestStep Polled
polled_step log word before summary is same =
    let now = update_requests_service (Polled ∷ log) _ (word, before, summary, is, refl) in
    let was = update_requests_service log before is in (
      (λ s. elim ((request_updated word (layer_logs (Polled ∷ log)).service (Poll ∷ before)).0 s).1 [
        | inl r ↦ absurd (r.2 ((was r.0).1 (requested_before_poll r.0 log ((now r.0).0 r.1))))
        | inr q ↦ absurd (request_polled before q)
      ]),
      (λ s. absurd (poll_ends_request log s)),
    )

other_step : (act : Act) → IsOther act → RequestStep act
other_step act other log word before summary is same =
    let mask = (layer_logs (act ∷ log)).service in
    let made : Update word mask ∷ before ≡ Update word mask ∷ own_status act before =
    ap (λ (acts : List StatusAct). Update word mask ∷ acts) (sym (other.0 before)) in
    let now = update_requests_service (act ∷ log) (Update word mask ∷ before) (word, before, summary, is, made) in
    let was = update_requests_service log before is in
    let law = request_updated word mask before in
    let step = since_step Reason Lasts act log in
    let lasts = other.1 log in
    rw (other.0 before) (
      (λ s.
          let h = law.0 s in
          step.1 (
            lasts.1 (h.0.0, (now h.0.0).0 h.0.1),
            elim h.1 [ inl r ↦ inl (r.0, (now r.0).0 r.1, λ a. r.2 ((was r.0).1 a)) | inr q ↦ inr (same.0 q) ],
          )),
      (λ s.
          let h = step.0 s in
          let m = lasts.0 h.0 in
          law.1 (
            (m.0, (now m.0).1 m.1),
            elim h.1 [ inl r ↦ inl (r.0, (now r.0).1 r.1, λ a. r.2 ((was r.0).0 a)) | inr q ↦ inr (same.1 q) ],
          )),
    )

pub same_requests : SameRequests
same_requests [] status_log is =
    rw is ((λ s. absurd (request_none s)), (λ s. absurd ((since_empty Reason Lasts).0 s).0))
same_requests (act ∷ log) status_log (word, before, summary, is, made) =
    rw made (by_poll_or_other RequestStep polled_step other_step act log word before summary is (same_requests log before is))

-- If the logs agree on whether a request is pending before the act and after it, they agree on
-- whether the act raises one.
abbrev RaisedStep : Act → Type 0
RaisedStep act = (log : List Act) (now : StatusAct) (before : List StatusAct)
    → status.Request (now ∷ own_status act before) ↔ Request (act ∷ log) → status.Request before ↔ Request log
    → status.IsRaised (now ∷ own_status act before) ↔ IsRaised (act ∷ log)

polled_raised : RaisedStep Polled
polled_raised log now before stands same =
    ((λ r. absurd (poll_ends_request log (stands.0 r.0))), (λ r. absurd (poll_ends_request log r.0)))

other_raised : (act : Act) → IsOther act → RaisedStep act
other_raised act other log now before stands same = (
  (λ r. (stands.0 r.0, λ q. r.1 (rw (other.0 before) (same.1 q)))),
  (λ r. (stands.1 r.0, λ q. r.1 (same.0 (rw (other.0 before) at q)))),
)

pub same_raised : (log : List Act) (status_log : List StatusAct) → IsStatus log status_log → status.IsRaised status_log ↔ IsRaised log
same_raised [] status_log is = rw is ((λ r. absurd r), (λ r. absurd r))
same_raised (act ∷ log) status_log (word, before, summary, is, made) =
    rw made (by_poll_or_other RaisedStep polled_raised other_raised act log _ before
    (same_requests (act ∷ log) _ (word, before, summary, is, refl)) (same_requests log before is))

-- Equivalent summary bits and an equivalent bit 6 give equivalent bits of the status byte.
shown : {B P Q : Type 0} (k : ℕ) (log : List Act) → B ↔ SummaryBit k log → P ↔ Q
    → (((k ≢ 6) × B) ⊎ ((k ≡ 6) × P)) ↔ (SummaryBit k log ⊎ ((k ≡ 6) × Q))
shown k log bit same = (
  (λ h. elim h [ inl other ↦ inl (bit.0 other.1) | inr six ↦ inr (six.0, same.0 six.1) ]),
  (λ h. elim h [ inl other ↦ inl (not_six k log other, bit.1 other) | inr six ↦ inr (six.0, same.1 six.1) ]),
)

pub same_status : SameStatus
same_status log status_log is k =
    let bits = update_has_summary_bits log status_log is k in
    (shown k log bits (same_requests log status_log is), shown k log bits (update_has_master log status_log is))
