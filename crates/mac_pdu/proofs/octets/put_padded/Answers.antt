use Rattle.std.proofs.lemmas.Result.{on_ok_weaker}
use Rattle.mac_pdu.proofs.Spell.{spell_padded}
use Rattle.mac_pdu.proofs.octets.put_padded.Goals as goal

pub returns : goal.returns
returns c =
    on_ok_weaker c.append_times.result
    (λ (h : _). spell_padded c.args.out.now c.put_open_heads.new.out c.append.new.self c.put_payloads.new.out
    c.append_times.new.self c.args.padding _
    c.in_ok-put_open_heads.ensures c.in_ok-append.ensures.ok c.in_ok-put_payloads.ensures h) c.append_times.ensures.ok
