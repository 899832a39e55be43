use Rattle.std.proofs.Common.{◌∙◌, sym}
use Rattle.std.proofs.lemmas.Bool.{false≢true}
use Rattle.sv_net.specs.Words.{serve_command, ServesBy}
use Rattle.sv_net.proofs.OptionsRead.{serves_same, serve_known, asked_by, not_asked, refused}
use Rattle.sv_net.proofs.words.read_serve.Goals as goal

pub returns-in-Some : goal.returns-in-Some
returns-in-Some g c = asked_by ServesBy serves_same serve_command serve_known _ _ c.in-Ok-try_get_matches_from.matches c.in-Some.serve
    c.in-Ok.ensures
    c.in-Ok-try_get_matches_from.ensures.matches
    c.in-Ok-try_get_matches_from.ensures.kinds c.in-Some.ensures
    (λ is. false≢true (sym c.if-has_end_of_options.false ∙ c.has_end_of_options.ensures.1 is))

pub returns-in-Ok-try_get_matches_from : goal.returns-in-Ok-try_get_matches_from
returns-in-Ok-try_get_matches_from g c = not_asked ServesBy serves_same serve_command serve_known _ _ c.in-Ok-try_get_matches_from.matches
    c.in-Ok.ensures
    c.in-Ok-try_get_matches_from.ensures.matches c.in-None.ensures

pub returns : goal.returns
returns g c = refused ServesBy serves_same serve_command serve_known _ _ c.in-Err.error _ c.in-Ok.ensures c.in-Err.ensures.kinds
    c.refused.ensures
