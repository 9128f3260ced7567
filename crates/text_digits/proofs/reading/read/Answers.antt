use Rattle.std.proofs.Common.{rules, refl}
use Rattle.text_digits.specs.Pairs.{pairs}
use Rattle.text_digits.proofs.DecodeLaws.{none-read, bad-text, block-read, block-none, last-read}
use Rattle.text_digits.proofs.reading.read.Goals as goal

pub loop-rest-init : goal.loop-rest-init
loop-rest-init c = record { read = rw c.clear.ensures (none-read (pairs c.args.letters c.args.text.now)) }

pub returns-in_default : goal.returns-in_default
returns-in_default c =
    bad-text c.args.letters c.args.text.now _ _
    (block-none c.args.letters c.args.text.now c.loop-rest.rest.now _ _ c.loop-rest.octets c.split_at.ensures.front
    c.split_at.ensures.back (search rules) c.in_default.ensures c.loop-rest.invariant.read) refl

pub loop-rest-preserved : goal.loop-rest-preserved
loop-rest-preserved c = record {
  read =
      rw c.in_ok-append.ensures.ok
      (block-read c.args.letters c.args.text.now c.loop-rest.rest.now _ _ c.loop-rest.octets _ c.split_at.ensures.front
      c.split_at.ensures.back (search rules) c.in-Some.ensures c.loop-rest.invariant.read);
}

pub returns : goal.returns
returns c =
    last-read c.args.letters c.args.text.now c.loop-rest.rest.now c.loop-rest.octets _ _
    c.loop-rest.invariant.read
    c.in_ok-good.ensures
