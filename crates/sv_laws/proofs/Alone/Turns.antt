-- The two Turns of a query that is asked alone: the write is accepted, and the read returns the
-- response.
use Rattle.std.proofs.Common.{◌≡◌, ◌≢◌, ℕ, ◌+◌, ◌-◌, ◌≤◌, Bool, true, false, cond, List, [], ◌∷◌, ◌++◌, length, Option, Some, None, refl, ap, ◌∙◌, arith, eq-eqb, lt-ltb}
use Rattle.std.specs.Prelude.{pos, take, nat_lt, is_some, slice_get, ◌==◌}
use Rattle.std.specs.Int.{bit_at}
use Rattle.std.proofs.lemmas.Bool.{le-ltb, ne_eqb}
use Rattle.std.proofs.lemmas.List.{length-append, take_all}
use Rattle.std.specs.List.{AllByRecursion, position_or_len}
use Rattle.sv_vxi.specs.declared.error_code.ErrorCode.TheVariants.{NoError}
use Rattle.sv_vxi.specs.Arguments.{LinkCall, DeviceWrite, DeviceRead, OnLink}
use Rattle.sv_vxi.specs.Results.{Outcome, Size, Read}
use Rattle.sv_links.specs.Links.{owner, is_of, holder, is_locked_out}
use Rattle.sv_exchange.specs.Exchange.{Accepted, ResponseRead, has_ended, response, is_something}
use Rattle.sv_exchange.specs.Limits.{max_message, max_read}
use Rattle.sv_exchange.specs.Read.{term_end, read_count, ends_at_term}
use Rattle.sv_layers.specs.Act.{Exchanged}
use Rattle.sv_instrument.specs.Step.{is_answerable}
use Rattle.sv_history.specs.declared.event.Config.{Config}
use Rattle.sv_history.specs.Event.{Turn}
use Rattle.sv_history.specs.Act.{Act, DeviceAct, CallTaken, Replied, Applied, On, OnDevice, of, device_acts, link_acts, instrument_acts, exchange_acts}
use Rattle.sv_history.specs.CallOutcome.{CallOutcome, answer_with}
use Rattle.sv_history.specs.Request.{Request, CoreRequest, next_request}
use Rattle.sv_history.specs.Effect.{result_reply, acts_of, call_effect}
use Rattle.sv_history.specs.CoreChannel.{term_of, reads, device_read}
use Rattle.sv_history.specs.Admission.{stop_of, admission}
use Rattle.sv_history.specs.History.{turn_acts, own_acts}
use Rattle.sv_laws.specs.QueryAlone.{NextIs, EndsAt, OneRead}
use Rattle.sv_laws.proofs.Cuts.Written.{log_with_write}
use Rattle.sv_laws.proofs.Cuts.WriteOutcome.{accepts_write}

-- Connection `c` owns the link, and no other link holds the lock.
pub record IsFree (c lid : ℕ) (acts : List DeviceAct) : Type 0 where
  pub owns : owner lid (link_acts acts) ≡ Some c
  pub unlocked : is_locked_out (holder (link_acts acts)) (Some lid) ≡ false

pub free_link_is_own : (c lid : ℕ) (acts : List DeviceAct) → IsFree c lid acts → is_of c (owner lid (link_acts acts)) ≡ true
free_link_is_own c lid acts f = ap (is_of c) f.owns ∙ eq-eqb c c refl

-- ---- the next call

abbrev pub log_after_call : ℕ → List ℕ → ℕ → CallOutcome → List Act → List Act
log_after_call c bytes xid outcome log = (acts_of c (call_effect xid outcome) ++ On c (CallTaken bytes) ∷ []) ++ log

pub turn_adds_outcome : (config : Config) (polled c lid : ℕ) (call : LinkCall) (outcome : CallOutcome) (log : List Act)
    (n : NextIs lid call (of c log))
    → admission config polled c (OnLink (pos lid) call) (stop_of c (OnLink (pos lid) call) (device_acts log)) (device_acts log) ≡ outcome
    → own_acts config polled (Turn c) log ++ log ≡ log_after_call c n.bytes n.xid outcome log
turn_adds_outcome config polled c lid call outcome log n is =
    let request = CoreRequest (record { xid = n.xid; arguments = OnLink (pos lid) call }) in
    ap (λ (o : Option (List ℕ)). turn_acts config polled c o (next_request (of c log)) log ++ log) n.next
    ∙ ap (λ (r : Option Request). turn_acts config polled c (Some n.bytes) r log ++ log) n.asks
    ∙ ap (λ (o : CallOutcome). log_after_call c n.bytes n.xid o log) is

-- ---- the write

write_is_accepted : (config : Config) (polled c lid io_timeout lock_timeout flags : ℕ) (sent : List ℕ) (acts : List DeviceAct)
    → IsFree c lid acts → length sent ≤ max_message → has_ended (exchange_acts acts) ≡ false
    → admission config polled c (OnLink (pos lid) (DeviceWrite io_timeout lock_timeout flags sent))
    (stop_of c (OnLink (pos lid) (DeviceWrite io_timeout lock_timeout flags sent)) acts) acts
    ≡ answer_with (Applied (Exchanged (Accepted sent (bit_at flags 3 == 1))) ∷ []) (Size NoError (length sent))
write_is_accepted config polled c lid io_timeout lock_timeout flags sent acts f short unended =
    let small = le-ltb max_message (length sent) short in
    rw (free_link_is_own c lid acts f, small, f.unlocked, unended) (accepts_write flags sent acts small unended)

pub turn_writes : (config : Config) (polled c lid io_timeout lock_timeout flags : ℕ) (sent : List ℕ) (log : List Act)
    (n : NextIs lid (DeviceWrite io_timeout lock_timeout flags sent) (of c log)) → IsFree c lid (device_acts log)
    → length sent ≤ max_message → has_ended (exchange_acts (device_acts log)) ≡ false → bit_at flags 3 ≡ 1
    → own_acts config polled (Turn c) log ++ log ≡ log_with_write c n.bytes (result_reply n.xid (Size NoError (length sent))) sent true log
turn_writes config polled c lid io_timeout lock_timeout flags sent log n f short unended ends =
    turn_adds_outcome config polled c lid (DeviceWrite io_timeout lock_timeout flags sent) _ log n
    (write_is_accepted config polled c lid io_timeout lock_timeout flags sent (device_acts log) f short unended)
    ∙ ap (λ (b : Bool). log_with_write c n.bytes (result_reply n.xid (Size NoError (length sent))) sent b log)
    (eq-eqb (bit_at flags 3) 1 ends)

-- ---- the read

-- The result of a read that returns the whole response.
abbrev pub whole : ℕ → Option ℕ → List ℕ → Outcome
whole most term answer = Read NoError (record {
  request_count = length answer + 1 == most;
  character = is_some term;
  end = true;
}) (answer ++ 10 ∷ [])

abbrev pub log_after_read : ℕ → List ℕ → List ℕ → ℕ → List Act → List Act
log_after_read c call reply count log =
    On c (Replied reply) ∷ OnDevice (Applied (Exchanged (ResponseRead count))) ∷ On c (CallTaken call) ∷ log

-- If the answer has no new line, the first new line of the response is the one after the answer.
first_new_line_ends_answer : (answer : List ℕ) → AllByRecursion (λ b. b ≢ 10) answer
    → position_or_len (λ b. b == 10) (answer ++ 10 ∷ []) ≡ length answer
first_new_line_ends_answer [] none = refl
first_new_line_ends_answer (b ∷ answer) none = rw (ne_eqb b 10 none.0)
    (ap (λ (n : ℕ). 1 + n) (first_new_line_ends_answer answer none.1) ∙ omega arith)

answer_ends_with_new_line : (answer : List ℕ) → slice_get (answer ++ 10 ∷ []) (length answer) ≡ Some 10
answer_ends_with_new_line [] = refl
answer_ends_with_new_line (b ∷ answer) = answer_ends_with_new_line answer

term_ends_at_whole : (term : Option ℕ) (answer : List ℕ) → EndsAt term answer
    → term_end term (answer ++ 10 ∷ []) ≡ length (answer ++ 10 ∷ [])
term_ends_at_whole None answer ends = refl
term_ends_at_whole (Some term) answer ends =
    let size = length-append answer (10 ∷ []) in
    let place = first_new_line_ends_answer answer ends.1 in
    let same : term_end (Some 10) (answer ++ 10 ∷ []) ≡ length (answer ++ 10 ∷ []) = grind (arith, size, place) in
    ap (λ (t : ℕ). term_end (Some t) (answer ++ 10 ∷ [])) ends.0 ∙ same

term_char_is_reason : (term : Option ℕ) (answer : List ℕ) → EndsAt term answer
    → ends_at_term (answer ++ 10 ∷ []) (length (answer ++ 10 ∷ [])) term ≡ is_some term
term_char_is_reason None answer ends = refl
term_char_is_reason (Some term) answer ends =
    let size = length-append answer (10 ∷ []) in
    let some : nat_lt 0 (length (answer ++ 10 ∷ [])) ≡ true = lt-ltb 0 (length (answer ++ 10 ∷ [])) (omega (arith, size)) in
    let before : length (answer ++ 10 ∷ []) - 1 ≡ length answer = omega (arith, size) in
    let last : slice_get (answer ++ 10 ∷ []) (length (answer ++ 10 ∷ []) - 1) ≡ Some 10 =
    ap (λ (n : ℕ). slice_get (answer ++ 10 ∷ []) n) before ∙ answer_ends_with_new_line answer in
    ap (λ (t : ℕ). ends_at_term (answer ++ 10 ∷ []) (length (answer ++ 10 ∷ [])) (Some t)) ends.0 ∙ rw (some, last) refl

counts_all : (bytes : List ℕ) (most : ℕ) (term : Option ℕ) → term_end term bytes ≡ length bytes → length bytes ≤ most
    → length bytes ≤ max_read → read_count bytes most term ≡ length bytes
counts_all bytes most term ends fits fits_read = rw ends (grind (arith, fits, fits_read))

abbrev whole_read : ℕ → Option ℕ → List ℕ → CallOutcome
whole_read most term answer = answer_with (Applied (Exchanged (ResponseRead (length (answer ++ 10 ∷ [])))) ∷ []) (whole most term answer)

by_count : (answer : List ℕ) (most count : ℕ) (term : Option ℕ) → count ≡ length (answer ++ 10 ∷ []) → EndsAt term answer
    → answer_with (Applied (Exchanged (ResponseRead count)) ∷ []) (Read NoError (record {
      request_count = count == most;
      character = ends_at_term (answer ++ 10 ∷ []) count term;
      end = count == length (answer ++ 10 ∷ []);
    }) (take count (answer ++ 10 ∷ []))) ≡ whole_read most term answer
by_count answer most count term e ends =
    let bytes = answer ++ 10 ∷ [] in
    rw (e, term_char_is_reason term answer ends, eq-eqb (length bytes) (length bytes) refl, take_all (length bytes) bytes (omega arith))
    (ap (λ (n : ℕ). answer_with (Applied (Exchanged (ResponseRead (length bytes))) ∷ [])
    (Read NoError (record { request_count = n == most; character = is_some term; end = true }) bytes)) (length-append answer (10 ∷ [])))

nonempty_response_is_read : (bytes got : List ℕ) (most : ℕ) (term : Option ℕ) (other : CallOutcome) → got ≡ bytes
    → is_something bytes ≡ true → cond (is_something got) (reads got most term) other ≡ reads bytes most term
nonempty_response_is_read bytes got most term other is some = rw (is, some) refl

pub line_is_nonempty : (answer : List ℕ) → is_something (answer ++ 10 ∷ []) ≡ true
line_is_nonempty [] = refl
line_is_nonempty (b ∷ answer) = refl

pub one_read_holds_line : (term : Option ℕ) (most : ℕ) (answer : List ℕ) → OneRead term most answer
    → (length (answer ++ 10 ∷ []) ≤ most) × (length (answer ++ 10 ∷ []) ≤ max_read)
one_read_holds_line term most answer fits =
    let size = length-append answer (10 ∷ []) in
    let one = fits.0 in
    let other = fits.1 in (omega (arith, size, one), omega (arith, size, other))

pub reads_whole : (answer : List ℕ) (most : ℕ) (term : Option ℕ) (acts : List DeviceAct) → response (exchange_acts acts) ≡ answer ++ 10 ∷ []
    → OneRead term most answer → device_read most term acts ≡ whole_read most term answer
reads_whole answer most term acts is fits =
    let bytes = answer ++ 10 ∷ [] in
    let room = one_read_holds_line term most answer fits in
    nonempty_response_is_read bytes (response (exchange_acts acts)) most term _ is (line_is_nonempty answer)
    ∙ by_count answer most (read_count bytes most term) term
    (counts_all bytes most term (term_ends_at_whole term answer fits.2) room.0 room.1) fits.2

pub response_makes_answerable : (bytes : List ℕ) (acts : List DeviceAct) → response (exchange_acts acts) ≡ bytes → is_something bytes ≡ true
    → is_answerable (instrument_acts acts) ≡ true
response_makes_answerable bytes acts is some = rw (is, some) refl

read_admitted : (config : Config) (polled c lid most io_timeout lock_timeout flags term_char : ℕ) (answer : List ℕ) (acts : List DeviceAct)
    → IsFree c lid acts → response (exchange_acts acts) ≡ answer ++ 10 ∷ [] → OneRead (term_of flags term_char) most answer
    → admission config polled c (OnLink (pos lid) (DeviceRead most io_timeout lock_timeout flags term_char))
    (stop_of c (OnLink (pos lid) (DeviceRead most io_timeout lock_timeout flags term_char)) acts) acts
    ≡ whole_read most (term_of flags term_char) answer
read_admitted config polled c lid most io_timeout lock_timeout flags term_char answer acts f is fits =
    let can = response_makes_answerable (answer ++ 10 ∷ []) acts is (line_is_nonempty answer) in
    rw (free_link_is_own c lid acts f, f.unlocked, can) (reads_whole answer most (term_of flags term_char) acts is fits)

pub turn_reads : (config : Config) (polled c lid most io_timeout lock_timeout flags term_char : ℕ) (answer : List ℕ) (log : List Act)
    (n : NextIs lid (DeviceRead most io_timeout lock_timeout flags term_char) (of c log)) → IsFree c lid (device_acts log)
    → response (exchange_acts (device_acts log)) ≡ answer ++ 10 ∷ [] → OneRead (term_of flags term_char) most answer
    → own_acts config polled (Turn c) log ++ log
    ≡ log_after_read c n.bytes (result_reply n.xid (whole most (term_of flags term_char) answer)) (length (answer ++ 10 ∷ [])) log
turn_reads config polled c lid most io_timeout lock_timeout flags term_char answer log n f is fits =
    turn_adds_outcome config polled c lid (DeviceRead most io_timeout lock_timeout flags term_char)
    (whole_read most (term_of flags term_char) answer)
    log n (read_admitted config polled c lid most io_timeout lock_timeout flags term_char answer (device_acts log) f is fits)
