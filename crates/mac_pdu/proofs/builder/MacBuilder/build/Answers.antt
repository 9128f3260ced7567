use Rattle.std.proofs.Common.{ℕ, List, length, ap, ◌∙◌, sym, subst}
use Rattle.mac_pdu.specs.Grammar.{MacPdu}
use Rattle.mac_pdu.specs.Writing.{IsBuilder, padded, items_of}
use Rattle.mac_pdu.specs.Laws.{Fits}
use Rattle.mac_pdu.proofs.Canonical.{canonical_fits}
use Rattle.mac_pdu.proofs.builder.MacBuilder.build.Goals as goal

pub returns-in-Ok-clause-size : goal.returns-in-Ok-clause-size
returns-in-Ok-clause-size c =
    let f : Fits c.args.self c.args.size =
    record {
      held = subst IsBuilder c.self.view_is c.self.invariant;
      room = c.requires.room;
      some = c.requires.some;
    } in
    ap length c.in-Ok.ensures ∙ (canonical_fits c.args.self c.args.size f).size_is

pub returns-in-Ok-clause-read : goal.returns-in-Ok-clause-read
returns-in-Ok-clause-read c =
    let f : Fits c.args.self c.args.size =
    record {
      held = subst IsBuilder c.self.view_is c.self.invariant;
      room = c.requires.room;
      some = c.requires.some;
    } in
    subst (λ (o : List ℕ). MacPdu c.args.self.direction (padded (items_of c.args.self) c.args.size) o)
    (sym c.in-Ok.ensures) ((canonical_fits c.args.self c.args.size f).read)
