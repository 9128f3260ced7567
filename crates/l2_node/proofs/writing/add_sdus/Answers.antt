use Rattle.std.proofs.Common.{◌≤◌, ℕ, ◌+◌, List, length, subst, ap, ◌∙◌, arith}
use Rattle.std.specs.List.{All}
use Rattle.std.proofs.lemmas.List.Elements.{All-tail}
use Rattle.mac_pdu.specs.Writing.{Parts}
use Rattle.l2_node.specs.Writing.{taken_up}
use Rattle.l2_node.proofs.Rooms.{sdu_fits, first_in_block, sdus_behind, taken_up_behind}
use Rattle.l2_node.proofs.writing.add_sdus.Goals as goal

pub move_sdu-requires-clause-fits : goal.move_sdu-requires-clause-fits
move_sdu-requires-clause-fits c =
    let first = first_in_block c.loop-octets.pdus c.pop_front.new.self c.in-Some.octets c.in-Some.ensures in
    let room : taken_up c.loop-octets.builder.sdus + (length c.in-Some.octets + 3) ≤ 9424 =
    omega (arith, first, c.loop-octets.invariant.taken_up, c.requires.room) in
    sdu_fits c.loop-octets.builder (record { lcid = c.args.lcid; octets = c.in-Some.octets })
    c.loop-octets.invariant.plain room

pub loop-octets-preserved : goal.loop-octets-preserved
loop-octets-preserved c =
    let first = c.in-Some.ensures in
    let added = c.in_ok-move_sdu.ensures.ok in
    record {
      parts = sdus_behind c.loop-octets.builder c.move_sdu.new.self c.args.lcid c.in-Some.octets c.loop-octets.pdus
          c.pop_front.new.self first added ∙ c.loop-octets.invariant.parts;
      taken_up = taken_up_behind c.loop-octets.builder c.move_sdu.new.self c.args.lcid c.in-Some.octets
          c.loop-octets.pdus c.pop_front.new.self first added ∙ c.loop-octets.invariant.taken_up;
      some = All-tail (λ (p : List ℕ). 1 ≤ length p) c.in-Some.octets c.pop_front.new.self
          (subst (λ (ps : List (List ℕ)). All (λ (p : List ℕ). 1 ≤ length p) ps) first c.loop-octets.invariant.some);
      plain = ap (λ (p : Parts). p.controls) added ∙ c.loop-octets.invariant.plain;
    }
