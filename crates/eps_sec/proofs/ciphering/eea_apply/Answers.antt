use Rattle.eps_sec.proofs.StreamLemmas.{add_stream-twice}
use Rattle.eps_sec.specs.Modes.{stream_octet, first_counter}
use Rattle.eps_sec.proofs.ciphering.eea_apply.Goals as goal

pub returns-in-Eea2-clause-back : goal.returns-in-Eea2-clause-back
returns-in-Eea2-clause-back c =
    rw (c.in-Eea2.is, c.add_stream.ensures, c.first_counter.ensures)
    (add_stream-twice
    (stream_octet c.args.schedule.now (first_counter c.args.count c.args.bearer c.args.direction)) 0
    c.args.text.now)
