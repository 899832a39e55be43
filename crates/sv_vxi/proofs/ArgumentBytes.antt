-- The function that reads a call's arguments returns exactly what the definition says of the bytes.
use Rattle.std.proofs.Common.{◌≡◌, ℕ, ℤ, ◌++◌, Bool, true, false, ◌||◌, ◌==◌, List, [], ◌∷◌, Result, Ok, Err, refl, sym, ap, ◌∙◌, subst, eqb-true}
use Rattle.std.specs.List.{AllByRecursion}
use Rattle.sv_xdr.specs.declared.garbage.Garbage.{Garbage}
use Rattle.sv_xdr.specs.Spelling.{BeginsAll}
use Rattle.sv_xdr.proofs.Fields.{IsBytes}
use Rattle.sv_vxi.specs.declared.arguments.GenericCall.{GenericCall}
use Rattle.sv_vxi.specs.declared.arguments.GenericCall.TheVariants.{Readstb, Trigger, Clear, Remote, Local}
use Rattle.sv_vxi.specs.Arguments.{LinkCall, DeviceAbort, DeviceWrite, DeviceRead, Generic, DeviceLock, DeviceUnlock, DeviceEnableSrq, DeviceDocmd, DestroyLink, Arguments, CreateLink, OnLink, CreateIntrChan, DestroyIntrChan, procedure_of, call_fields, argument_fields, InBounds, BeginsWith, core_calls, abort_calls, is_one_of, ArgumentsAre}
use Rattle.sv_vxi.specs.Limits.{max_handle}
use Rattle.sv_vxi.specs.Reading.{Kind, signed, unsigned, boolean, opaque, any, Makes, read, read_on_link, arguments_at}
use Rattle.sv_vxi.proofs.Spelled.{Values, fields, make, Bounded, opaque_length_bound, encoded_fields_are_read, read_takes, encoded_link_call_is_read, on_link_takes}

infixr 10 ◌&◌
abbrev ◌&◌ : {A B : Type 0} → A → B → A × B
a & b = (a, b)

-- The kinds of the fields of each call; for calls on a link, without the link.
abbrev generic : List Kind
generic = unsigned ∷ unsigned ∷ unsigned ∷ []

abbrev create_link : List Kind
create_link = signed ∷ boolean ∷ unsigned ∷ any ∷ []

abbrev device_write : List Kind
device_write = unsigned ∷ unsigned ∷ unsigned ∷ any ∷ []

abbrev device_read : List Kind
device_read = unsigned ∷ unsigned ∷ unsigned ∷ unsigned ∷ unsigned ∷ []

abbrev device_lock : List Kind
device_lock = unsigned ∷ unsigned ∷ []

abbrev enable_srq : List Kind
enable_srq = boolean ∷ opaque max_handle ∷ []

abbrev device_docmd : List Kind
device_docmd = unsigned ∷ unsigned ∷ unsigned ∷ signed ∷ boolean ∷ signed ∷ any ∷ []

abbrev create_intr_chan : List Kind
create_intr_chan = unsigned ∷ unsigned ∷ unsigned ∷ unsigned ∷ unsigned ∷ []

generic_begins : (call : GenericCall) (lid : ℤ) (flags lock_timeout io_timeout : ℕ) (bytes after : List ℕ)
    → BeginsAll bytes (argument_fields (OnLink lid (Generic call flags lock_timeout io_timeout))) after
    → read_on_link generic (Generic call) bytes ≡ Ok (OnLink lid (Generic call flags lock_timeout io_timeout))
generic_begins call lid flags lock_timeout io_timeout bytes after h =
    encoded_link_call_is_read generic (Generic call) lid (flags & lock_timeout & io_timeout & tt) bytes after tt h

-- Encoded arguments are read.
pub encoded_arguments_are_read : (a : Arguments) (bytes after : List ℕ) → BeginsWith bytes a after
    → arguments_at (procedure_of a) bytes ≡ Ok a
encoded_arguments_are_read (OnLink lid DeviceAbort) bytes after (bounds, h) =
    encoded_link_call_is_read [] DeviceAbort lid tt bytes after tt h
encoded_arguments_are_read (CreateLink client_id lock_device lock_timeout device) bytes after (bounds, h) =
    encoded_fields_are_read create_link CreateLink (client_id & lock_device & lock_timeout & device & tt) bytes after
    (opaque_length_bound _ h.2.2.2.1, tt) h
encoded_arguments_are_read (OnLink lid (DeviceWrite io_timeout lock_timeout flags text)) bytes after (bounds, h) =
    encoded_link_call_is_read device_write DeviceWrite lid (io_timeout & lock_timeout & flags & text & tt) bytes after
    (opaque_length_bound _ h.2.2.2.2.1, tt) h
encoded_arguments_are_read (OnLink lid (DeviceRead request_size io_timeout lock_timeout flags term_char)) bytes after (bounds, h) =
    encoded_link_call_is_read device_read DeviceRead lid (request_size & io_timeout & lock_timeout & flags & term_char & tt) bytes after tt
    h
encoded_arguments_are_read (OnLink lid (Generic Readstb flags lock io)) bytes after (bounds, h) =
    generic_begins Readstb lid flags lock io bytes after h
encoded_arguments_are_read (OnLink lid (Generic Trigger flags lock io)) bytes after (bounds, h) =
    generic_begins Trigger lid flags lock io bytes after h
encoded_arguments_are_read (OnLink lid (Generic Clear flags lock io)) bytes after (bounds, h) =
    generic_begins Clear lid flags lock io bytes after h
encoded_arguments_are_read (OnLink lid (Generic Remote flags lock io)) bytes after (bounds, h) =
    generic_begins Remote lid flags lock io bytes after h
encoded_arguments_are_read (OnLink lid (Generic Local flags lock io)) bytes after (bounds, h) =
    generic_begins Local lid flags lock io bytes after h
encoded_arguments_are_read (OnLink lid (DeviceLock flags lock_timeout)) bytes after (bounds, h) =
    encoded_link_call_is_read device_lock DeviceLock lid (flags & lock_timeout & tt) bytes after tt h
encoded_arguments_are_read (OnLink lid DeviceUnlock) bytes after (bounds, h) =
    encoded_link_call_is_read [] DeviceUnlock lid tt bytes after tt h
encoded_arguments_are_read (OnLink lid (DeviceEnableSrq enable handle)) bytes after (bounds, h) =
    encoded_link_call_is_read enable_srq DeviceEnableSrq lid (enable & handle & tt) bytes after (bounds, tt) h
encoded_arguments_are_read (OnLink lid (DeviceDocmd flags io_timeout lock_timeout cmd network_order datasize text)) bytes after
    (bounds, h) =
    encoded_link_call_is_read device_docmd DeviceDocmd lid (flags & io_timeout & lock_timeout & cmd & network_order & datasize & text & tt)
    bytes after
    (opaque_length_bound _ h.2.2.2.2.2.2.2.1, tt) h
encoded_arguments_are_read (OnLink lid DestroyLink) bytes after (bounds, h) =
    encoded_link_call_is_read [] DestroyLink lid tt bytes after tt h
encoded_arguments_are_read (CreateIntrChan host_addr host_port prog_num prog_vers prog_family) bytes after (bounds, h) =
    encoded_fields_are_read create_intr_chan CreateIntrChan (host_addr & host_port & prog_num & prog_vers & prog_family & tt) bytes after tt
    h
encoded_arguments_are_read DestroyIntrChan bytes after h = refl

-- What the bytes are as arguments is what is read from them.
pub arguments_read : (proc : ℕ) (bytes : List ℕ) (a : Arguments) → ArgumentsAre proc bytes (Ok a) → arguments_at proc bytes ≡ Ok a
arguments_read proc bytes a h = ap (λ (n : ℕ). arguments_at n bytes) (sym h.0) ∙ encoded_arguments_are_read a bytes h.1 h.2

-- The same bytes have only one meaning as a call's arguments.
pub arguments_unique : (proc : ℕ) (bytes : List ℕ) (a b : Result Arguments Garbage) → ArgumentsAre proc bytes a → ArgumentsAre proc bytes b
    → a ≡ b
arguments_unique proc bytes (Ok a) (Ok b) h k = sym (arguments_read proc bytes a h) ∙ arguments_read proc bytes b k
arguments_unique proc bytes (Ok a) (Err garbage) h k = absurd (k a h.1 h.0 h.2)
arguments_unique proc bytes (Err garbage) (Ok b) h k = absurd (h b k.1 k.0 k.2)
arguments_unique proc bytes (Err garbage) (Err other) h k = refl

-- Arguments of this call that are read are encoded there.
abbrev Takes : ℕ → (List ℕ → Result Arguments Garbage) → Type 0
Takes proc at = (bytes : List ℕ) (a : Arguments) → IsBytes bytes → at bytes ≡ Ok a → ArgumentsAre proc bytes (Ok a)

-- The fields of these kinds make arguments of this call, and encode them.
abbrev Spells : ℕ → (kinds : List Kind) → Makes kinds Arguments → Type 0
Spells proc kinds makes = (values : Values kinds) → Bounded kinds values → (procedure_of (make kinds makes values) ≡ proc)
    × InBounds (make kinds makes values) × (argument_fields (make kinds makes values) ≡ fields kinds values)

takes : (proc : ℕ) (kinds : List Kind) (makes : Makes kinds Arguments) → Spells proc kinds makes → Takes proc (read kinds makes)
takes proc kinds makes spells bytes a fits e =
    let r = read_takes kinds makes bytes a fits e in
    let s = spells r.0 r.2 in
    subst (λ (b : Arguments). ArgumentsAre proc bytes (Ok b)) (sym r.1)
    (s.0, r.3, (s.1, rw s.2 r.4))

-- The same for a call on a link.
abbrev SpellsCall : ℕ → (kinds : List Kind) → Makes kinds LinkCall → Type 0
SpellsCall proc kinds makes = (lid : ℤ) (values : Values kinds) → Bounded kinds values
    → (procedure_of (OnLink lid (make kinds makes values)) ≡ proc) × InBounds (OnLink lid (make kinds makes values))
    × (call_fields (make kinds makes values) ≡ fields kinds values)

call_takes : (proc : ℕ) (kinds : List Kind) (makes : Makes kinds LinkCall) → SpellsCall proc kinds makes
    → Takes proc (read_on_link kinds makes)
call_takes proc kinds makes spells bytes a fits e =
    let r = on_link_takes kinds makes bytes a fits e in
    let s = spells r.0 r.1 r.3 in
    subst (λ (b : Arguments). ArgumentsAre proc bytes (Ok b)) (sym r.2)
    (s.0, r.4, (s.1, rw s.2 r.5))

either : {P : Type 0} (b c : Bool) → (b || c) ≡ true → (b ≡ true → P) → (c ≡ true → P) → P
either true c e f g = f refl
either false c e f g = g e

-- A property of all calls is one of each of them.
of_each : (P : ℕ → Type 0) (calls : List ℕ) (proc : ℕ) → AllByRecursion P calls → is_one_of calls proc ≡ true → P proc
of_each P [] proc all one = absurd cc
of_each P (call ∷ calls) proc all one = either (proc == call) (is_one_of calls proc) one
    (λ same. subst P (sym (eqb-true proc call same)) all.0) (λ rest. of_each P calls proc all.1 rest)

-- All calls of the core channel, in the order of their numbers, and then device_abort.
each_takes : AllByRecursion (λ proc. Takes proc (arguments_at proc)) (core_calls ++ abort_calls)
each_takes =
    takes 10 create_link CreateLink (λ _ _. (refl, tt, refl))
    & call_takes 11 device_write DeviceWrite (λ _ _ _. (refl, tt, refl))
    & call_takes 12 device_read DeviceRead (λ _ _ _. (refl, tt, refl))
    & call_takes 13 generic (Generic Readstb) (λ _ _ _. (refl, tt, refl))
    & call_takes 14 generic (Generic Trigger) (λ _ _ _. (refl, tt, refl))
    & call_takes 15 generic (Generic Clear) (λ _ _ _. (refl, tt, refl))
    & call_takes 16 generic (Generic Remote) (λ _ _ _. (refl, tt, refl))
    & call_takes 17 generic (Generic Local) (λ _ _ _. (refl, tt, refl))
    & call_takes 18 device_lock DeviceLock (λ _ _ _. (refl, tt, refl))
    & call_takes 19 [] DeviceUnlock (λ _ _ _. (refl, tt, refl))
    & call_takes 20 enable_srq DeviceEnableSrq (λ _ _ b. (refl, b.0, refl))
    & call_takes 22 device_docmd DeviceDocmd (λ _ _ _. (refl, tt, refl))
    & call_takes 23 [] DestroyLink (λ _ _ _. (refl, tt, refl))
    & takes 25 create_intr_chan CreateIntrChan (λ _ _. (refl, tt, refl))
    & takes 26 [] DestroyIntrChan (λ _ _. (refl, tt, refl))
    & call_takes 1 [] DeviceAbort (λ _ _ _. (refl, tt, refl))
    & tt

-- If arguments that are read are encoded there, any result of reading is right.
outcome_is : (proc : ℕ) (bytes : List ℕ) (r : Result Arguments Garbage) → ((a : Arguments) → r ≡ Ok a → ArgumentsAre proc bytes (Ok a))
    → arguments_at proc bytes ≡ r → ArgumentsAre proc bytes r
outcome_is proc bytes (Ok a) reads e = reads a refl
outcome_is proc bytes (Err garbage) reads e = λ a after p h. absurd (cc (arguments_read proc bytes a (p, after, h)))

pub arguments_are : (proc : ℕ) (bytes : List ℕ) → IsBytes bytes → is_one_of (core_calls ++ abort_calls) proc ≡ true
    → ArgumentsAre proc bytes (arguments_at proc bytes)
arguments_are proc bytes fits one = outcome_is proc bytes (arguments_at proc bytes)
    (λ a e. of_each (λ proc. Takes proc (arguments_at proc)) (core_calls ++ abort_calls) proc each_takes one bytes a fits e) refl
