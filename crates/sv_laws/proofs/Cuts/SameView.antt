-- Two logs that are the same but for how bytes were split into pieces, and records into fragments.
-- They stay so after the same acts, and after pieces of the same records.
use Rattle.std.proofs.Common.{◌≡◌, ℕ, suc, List, [], ◌∷◌, ◌++◌, refl, sym, ap, ◌∙◌, inl, inr, append_assoc, append-nil}
use Rattle.std.specs.Prelude.{map, ◌==◌}
use Rattle.std.proofs.lemmas.Bool.{cases_eq, cases_Bool}
use Rattle.sv_rpc.specs.Stream.{Reading, reading}
use Rattle.sv_history.specs.Act.{Act, ConnAct, DeviceAct, Piece, Faulted, Replied, On, OnDevice, of, device_acts}
use Rattle.sv_history.specs.Connection.{join_pieces, next_call, open_role, pending_call, records_ended, took_no_call, stream}
use Rattle.sv_history.specs.Request.{next_request}
use Rattle.sv_history.specs.Effect.{Effect, acts_of}
use Rattle.sv_laws.specs.Adding.{all_replies}
use Rattle.sv_laws.proofs.Cuts.ReadsOn.{same_reading_append}
use Rattle.sv_history.proofs.Projections.{of_effect, of_others_effect, device_effect}

-- ---- the acts of a connection

-- The acts show the same: role, pending call, number of finished records, faults and replies. Their
-- streams may differ.
pub record SameShown (acts others : List ConnAct) : Type 0 where
  pub role : open_role acts ≡ open_role others
  pub call : pending_call acts ≡ pending_call others
  pub count : records_ended acts ≡ records_ended others
  pub no_call : took_no_call acts ≡ took_no_call others
  pub replies : all_replies acts ≡ all_replies others

-- Moreover the same is read of both streams: the same records and the same tail.
pub record SameConnection (acts others : List ConnAct) : Type 0 where
  pub shown : SameShown acts others
  pub open shown use *
  pub streams : reading (stream acts) ≡ reading (stream others)

pub connection_none : SameConnection [] []
connection_none = assumption

pub same_connection_sym : (acts others : List ConnAct) → SameConnection acts others → SameConnection others acts
same_connection_sym acts others v = record { shown = search sym; streams = sym v.streams }

pub act_keeps_same_connection : (act : ConnAct) (acts others : List ConnAct) → SameConnection acts others
    → SameConnection (act ∷ acts) (act ∷ others)
act_keeps_same_connection (Piece bytes) acts others v = assumption (same_reading_append (stream acts) (stream others) bytes v.streams)
act_keeps_same_connection Faulted acts others v = assumption (ap suc v.count)
act_keeps_same_connection (Replied bytes) acts others v = assumption (ap suc v.count, ap (λ (l : List ℕ). l ++ bytes) v.replies)
act_keeps_same_connection _ acts others v = assumption

-- `acts` shows the same as `base`, and its stream has `bytes` added.
abbrev pub ShowsSameWithBytes : List ConnAct → List ConnAct → List ℕ → Type 0
ShowsSameWithBytes acts base bytes = SameShown acts base × (stream acts ≡ stream base ++ bytes)

pub pieces_extend_only_stream : (pieces : List (List ℕ)) (base : List ConnAct)
    → ShowsSameWithBytes (map Piece pieces ++ base) base (join_pieces pieces)
pieces_extend_only_stream [] base = assumption (sym (append-nil (stream base)))
pieces_extend_only_stream (piece ∷ pieces) base =
    let so = pieces_extend_only_stream pieces base in
    assumption (ap (λ (l : List ℕ). l ++ piece) so.1 ∙ append_assoc (stream base) (join_pieces pieces) piece)

same_pieces : (pieces others : List (List ℕ)) (acts also : List ConnAct)
    → reading (stream acts ++ join_pieces pieces) ≡ reading (stream also ++ join_pieces others)
    → SameConnection acts also → SameConnection (map Piece pieces ++ acts) (map Piece others ++ also)
same_pieces pieces others acts also streams v =
    let (one, stream_one) = pieces_extend_only_stream pieces acts in
    let (two, stream_two) = pieces_extend_only_stream others also in
    record {
      shown = record {
        role = one.role ∙ v.role ∙ sym two.role;
        call = one.call ∙ v.call ∙ sym two.call;
        count = one.count ∙ v.count ∙ sym two.count;
        no_call = one.no_call ∙ v.no_call ∙ sym two.no_call;
        replies = one.replies ∙ v.replies ∙ sym two.replies;
      };
      streams = rw (stream_one, stream_two) streams;
    }

-- ---- the next call

pub next_call_same : (acts others : List ConnAct) → SameConnection acts others → next_call acts ≡ next_call others
next_call_same acts others v = rw (v.no_call, v.call, ap (λ (r : Reading). r.0) v.streams, v.count) refl

pub next_request_same : (acts others : List ConnAct) → SameConnection acts others → next_request acts ≡ next_request others
next_request_same acts others v = rw (next_call_same acts others v, v.role) refl

-- ---- logs

pub record Alike (log other : List Act) : Type 0 where
  pub device : device_acts log ≡ device_acts other
  pub each : (c : ℕ) → SameConnection (of c log) (of c other)

pub alike_empty : Alike [] []
alike_empty = record { device = refl; each = λ c. connection_none }

pub alike_sym : (log other : List Act) → Alike log other → Alike other log
alike_sym log other alike =
    record { device = sym alike.device; each = λ c. same_connection_sym (of c log) (of c other) (alike.each c) }

pub acts_keep_alike : (adds log other : List Act) → Alike log other → Alike (adds ++ log) (adds ++ other)
acts_keep_alike [] log other alike = alike
acts_keep_alike (OnDevice act ∷ adds) log other alike =
    let so = acts_keep_alike adds log other alike in assumption (ap (λ (l : List DeviceAct). act ∷ l) so.device)
acts_keep_alike (On c act ∷ adds) log other alike =
    let so = acts_keep_alike adds log other alike in
    record {
      device = so.device;
      each = λ d. elim (cases_Bool (c == d)) [
        | inl e ↦ rw e (act_keeps_same_connection act (of d (adds ++ log)) (of d (adds ++ other)) (so.each d))
        | inr e ↦ rw e (so.each d)
      ];
    }

-- ---- different pieces in the two logs

-- The effect that has these acts of the connection, and none of the device.
abbrev pub only_own : List ConnAct → Effect
only_own own = record { own = own; adds = [] }

abbrev pub pieces_on : ℕ → List (List ℕ) → List Act
pieces_on c pieces = acts_of c (only_own (map Piece pieces))

pub pieces_keep_alike : (c : ℕ) (pieces others : List (List ℕ)) (log other : List Act)
    → reading (stream (of c log) ++ join_pieces pieces) ≡ reading (stream (of c other) ++ join_pieces others) → Alike log other
    → Alike (pieces_on c pieces ++ log) (pieces_on c others ++ other)
pieces_keep_alike c pieces others log other streams alike =
    let one = only_own (map Piece pieces) in
    let two = only_own (map Piece others) in
    record {
      device = device_effect c one log ∙ alike.device ∙ sym (device_effect c two other);
      each = λ d. elim (cases_eq d c) [
        | inl e ↦ rw (e, of_effect c one log, of_effect c two other)
            (same_pieces pieces others (of c log) (of c other) streams (alike.each c))
        | inr ne ↦ rw (of_others_effect c d one log ne, of_others_effect c d two other ne) (alike.each d)
      ];
    }
