-- What create_intr_chan returns when the server has connected to its peer, or has failed to.
use Rattle.std.proofs.Common.{◌≡◌, ℕ, Bool, true, false, [], ◌∷◌, Option, Some, None, refl}
use Rattle.sv_vxi.specs.declared.error_code.ErrorCode.TheVariants.{NoError, NotEstablished}
use Rattle.sv_vxi.specs.Arguments.{Arguments, CreateIntrChan}
use Rattle.sv_vxi.specs.Results.{Plain}
use Rattle.sv_links.specs.declared.request.Peer.{Peer}
use Rattle.sv_links.specs.Channels.{ChannelOpened}
use Rattle.sv_history.specs.Act.{Channel}
use Rattle.sv_history.specs.CallOutcome.{CallOutcome, answer_with, only}
use Rattle.sv_history.specs.CoreCall.{failure}
use Rattle.sv_history.specs.Interrupts.{connect_outcome}

abbrev pub peer_named_by : Arguments → Option Peer
peer_named_by (CreateIntrChan host_addr host_port prog_num prog_vers prog_family) = Some (record { prog = prog_num; vers = prog_vers })
peer_named_by _ = None

abbrev pub connect_result : ℕ → Bool → Peer → CallOutcome
connect_result c true peer = answer_with (Channel (ChannelOpened c peer) ∷ []) (Plain NoError)
connect_result c false peer = only (Plain NotEstablished)

abbrev pub connect_outcome_for : ℕ → Bool → Arguments → Option Peer → CallOutcome
connect_outcome_for c ok arguments (Some peer) = connect_result c ok peer
connect_outcome_for c ok arguments None = only (failure arguments NotEstablished)

pub connect_outcome_by_peer : (c : ℕ) (ok : Bool) (arguments : Arguments)
    → connect_outcome c ok arguments ≡ connect_outcome_for c ok arguments (peer_named_by arguments)
connect_outcome_by_peer c true (CreateIntrChan host_addr host_port prog_num prog_vers prog_family) = refl
connect_outcome_by_peer c false (CreateIntrChan host_addr host_port prog_num prog_vers prog_family) = refl
connect_outcome_by_peer c true _ = refl
connect_outcome_by_peer c false _ = refl
