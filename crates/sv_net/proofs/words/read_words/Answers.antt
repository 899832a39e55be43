use Rattle.std.proofs.Common.{rules, ap, ◌∙◌, Some}
use Rattle.std.proofs.lemmas.Slice.Eq.{bytes_eq-Decides}
use Rattle.std.proofs.lemmas.Result.{err_from_is_err_and}
use Rattle.sv_net.proofs.Asked.{first_text, asks_server, asks_replay, asks_explain, serve_fault, replay_fault, explain_fault}
use Rattle.sv_net.proofs.words.read_words.Goals as goal

pub returns-in_ok-read_serve : goal.returns-in_ok-read_serve
returns-in_ok-read_serve g c =
    let serve = (bytes_eq-Decides _ _).0 (search (rules, c.if-eq.true, c.eq.ensures)) in
    asks_server _ _ (first_text g.S.AsStr.text c.args.words.now _ c.in-Some.ensures.value ∙ ap Some serve) c.in_ok-read_serve.ensures

pub returns-in_err-read_serve : goal.returns-in_err-read_serve
returns-in_err-read_serve g c =
    let serve = (bytes_eq-Decides _ _).0 (search (rules, c.if-eq.true, c.eq.ensures)) in
    let told = err_from_is_err_and c.from_residual.result c.from_residual.ensures.1 in
    rw (told.1, told.2) (serve_fault _ c.in_err-read_serve.field-0.0
    (first_text g.S.AsStr.text c.args.words.now _ c.in-Some.ensures.value ∙ ap Some serve) c.in_err-read_serve.ensures)

pub returns-in_ok-read_ports : goal.returns-in_ok-read_ports
returns-in_ok-read_ports g c =
    let replay = (bytes_eq-Decides _ _).0 (search (rules, c.if-eq-2.true, c.eq-else-eq.ensures)) in
    asks_replay _ _ (first_text g.S.AsStr.text c.args.words.now _ c.in-Some.ensures.value ∙ ap Some replay) c.in_ok-read_ports.ensures

pub returns-in_err-read_ports : goal.returns-in_err-read_ports
returns-in_err-read_ports g c =
    let replay = (bytes_eq-Decides _ _).0 (search (rules, c.if-eq-2.true, c.eq-else-eq.ensures)) in
    let told = err_from_is_err_and c.from_residual-in_err-read_ports.result c.from_residual-in_err-read_ports.ensures.1 in
    rw (told.1, told.2) (replay_fault _ c.in_err-read_ports.field-0.0
    (first_text g.S.AsStr.text c.args.words.now _ c.in-Some.ensures.value ∙ ap Some replay) c.in_err-read_ports.ensures)

pub returns-in_ok-read_ports-2 : goal.returns-in_ok-read_ports-2
returns-in_ok-read_ports-2 g c =
    let explain = (bytes_eq-Decides _ _).0 (search (rules, c.if-eq-3.true, c.eq-else-eq-2.ensures)) in
    asks_explain _ _ (first_text g.S.AsStr.text c.args.words.now _ c.in-Some.ensures.value ∙ ap Some explain) c.in_ok-read_ports-2.ensures

pub returns-in_err-read_ports-2 : goal.returns-in_err-read_ports-2
returns-in_err-read_ports-2 g c =
    let explain = (bytes_eq-Decides _ _).0 (search (rules, c.if-eq-3.true, c.eq-else-eq-2.ensures)) in
    let told = err_from_is_err_and c.from_residual-in_err-read_ports-2.result c.from_residual-in_err-read_ports-2.ensures.1 in
    rw (told.1, told.2) (explain_fault _ c.in_err-read_ports-2.field-0.0
    (first_text g.S.AsStr.text c.args.words.now _ c.in-Some.ensures.value ∙ ap Some explain) c.in_err-read_ports-2.ensures)
