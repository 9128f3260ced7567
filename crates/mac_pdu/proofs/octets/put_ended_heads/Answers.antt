use Rattle.std.proofs.Common.{◌∙◌}
use Rattle.std.proofs.lemmas.Result.{on_ok_weaker}
use Rattle.std.proofs.lemmas.List.{nil_from_length}
use Rattle.mac_pdu.proofs.Spell.{heads_sdu, heads_control}
use Rattle.mac_pdu.proofs.octets.put_ended_heads.Goals as goal

pub returns-in_ok-put_sdu_heads-in_default-Some : goal.returns-in_ok-put_sdu_heads-in_default-Some
returns-in_ok-put_sdu_heads-in_default-Some c =
    let a = c.in_default-Some in
    let e = heads_sdu c.args.out.now c.put_control_heads.new.out c.put_sdu_heads.new.out c.args.controls.now
    c.args.sdus.now a.sdus.now a.last.now
    a.ensures.cases.0 c.in_ok-put_control_heads-in_default-Some.ensures c.in_ok-put_sdu_heads-in_default-Some.ensures in
    on_ok_weaker c.append.result (λ (h : _). h ∙ e) c.append.ensures.ok

pub returns-in_ok-put_control_heads-in-Some-None :
    goal.returns-in_ok-put_control_heads-in-Some-None
returns-in_ok-put_control_heads-in-Some-None c =
    let a = c.in-Some-None in
    let e = heads_control c.args.out.now c.put_control_heads-in-Some-None.new.out c.args.controls.now a.controls.now
    a.last.now c.args.sdus.now c.lcid.result
    a.ensures'.cases.0 (nil_from_length c.args.sdus.now a.ensures.cases)
    c.in_ok-put_control_heads-in-Some-None.ensures c.lcid.ensures in
    on_ok_weaker c.append-in-Some-None.result (λ (h : _). h ∙ e) c.append-in-Some-None.ensures.ok
