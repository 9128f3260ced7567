use Rattle.std.proofs.Common.{sym, drop}
use Rattle.l2_bits.specs.Bits.{bits_of}
use Rattle.rlc_pdu.proofs.EntrySteps.{none_left, none_whole, next_is}
use Rattle.rlc_pdu.proofs.entries.NackReader.next.Goals as goal

pub returns-then-not-self-clause-entry : goal.returns-then-not-self-clause-entry
returns-then-not-self-clause-entry c =
    let r = c.args.self.now in
    let none = none_left (drop r.at (bits_of r.octets.now)) in
    rw c.if-not-self.true (none, none)

pub returns-in_default-clause-entry : goal.returns-in_default-clause-entry
returns-in_default-clause-entry c =
    let r = c.args.self.now in
    let none = none_whole (drop r.at (bits_of r.octets.now)) (sym c.in_default.ensures.read) in
    rw c.if-not-self.false (none, none)

pub invariant_of-self : goal.invariant_of-self
invariant_of-self c =
    let r = c.args.self.now in
    let e = c.in-Some.entry in
    let n = next_is e.nack e.more (drop e.next (bits_of r.octets.now)) (drop r.at (bits_of r.octets.now))
    (sym c.in-Some.ensures.read) (rw c.if-not-self.false at r.sound) in
    record { sound = n.sound; within = c.in-Some.ensures.behind.1; short = r.short }

pub returns-clause-entry : goal.returns-clause-entry
returns-clause-entry c =
    let r = c.args.self.now in
    let e = c.in-Some.entry in
    let n = next_is e.nack e.more (drop e.next (bits_of r.octets.now)) (drop r.at (bits_of r.octets.now))
    (sym c.in-Some.ensures.read) (rw c.if-not-self.false at r.sound) in
    rw c.if-not-self.false n.found
