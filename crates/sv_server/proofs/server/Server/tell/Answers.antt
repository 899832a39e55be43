use Rattle.sv_print.proofs.Taking.{prints_then}
use Rattle.sv_server.proofs.server.Server.tell.Goals as goal

pub returns : goal.returns
returns g c = λ config log rep.
    let (conns, conns_lines) = c.tell_conns.ensures config log rep in
    let (links, links_lines) = c.tell_links.ensures config log rep in
    let (scanner, scanner_lines) = c.tell_scanner.ensures config log rep in
    let (exchange, exchange_lines) = c.tell_exchange.ensures config log rep in
    let (statuses, statuses_lines) = c.tell_statuses.ensures config log rep in (
      record { conns = conns; links = links; scanner = scanner; exchange = exchange; statuses = statuses },
      prints_then _ _ _ _ _ _ _ _ conns_lines (prints_then _ _ _ _ _ _ _ _ links_lines
          (prints_then _ _ _ _ _ _ _ _ scanner_lines (prints_then _ _ _ _ _ _ _ _ exchange_lines statuses_lines))),
    )
