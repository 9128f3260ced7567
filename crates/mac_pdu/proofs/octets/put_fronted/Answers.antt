use Rattle.std.proofs.lemmas.Result.{on_ok_weaker}
use Rattle.mac_pdu.proofs.Spell.{spell_fronted}
use Rattle.mac_pdu.proofs.octets.put_fronted.Goals as goal

pub returns : goal.returns
returns c =
    on_ok_weaker c.put_payloads.result
    (λ (h : _). spell_fronted c.args.out.now c.append_times.new.self c.put_ended_heads.new.out c.put_payloads.new.out
    c.args.fronts _
    c.requires.some c.in_ok-append_times.ensures.ok c.in_ok-put_ended_heads.ensures h) c.put_payloads.ensures
