use Rattle.std.proofs.Common.{◌≡◌, ℕ, ◌+◌, ◌*◌, ◌/◌, ◌%◌, ◌^◌, ◌-◌, sym, ◌∙◌, arith, ap}
use Rattle.std.proofs.lemmas.Nat.{one_shl, mod_below, pow_pos}
use Rattle.l2_bits.proofs.BitFields.{number-within}
use Rattle.l2_bits.proofs.reader.field.Goals as goal

pub returns-clause-number : goal.returns-clause-number
returns-clause-number c =
    let at = c.args.at in
    let n = c.args.n in
    let i : ℕ = at / 8 in
    let e : ℕ = (at + n + 7) / 8 in
    let f : ℕ = e - i in
    let sum : i + f ≡ e = omega arith in
    let w = number-within c.args.octets.now at n i f (omega arith) (omega arith) (omega arith) in
    let p : 1 * 2 ^ n % 18446744073709551616 ≡ 2 ^ n = one_shl n 64 (omega arith) in
    let k : ℕ = 8 * e - (at + n) in
    rw p (ap (λ (whole : ℕ). whole / 2 ^ k % 2 ^ n) c.from_octets-whole.ensures ∙ (rw sum at (sym w)))

pub returns-clause-below : goal.returns-clause-below
returns-clause-below c =
    let p : 1 * 2 ^ c.args.n % 18446744073709551616 ≡ 2 ^ c.args.n = one_shl c.args.n 64 (omega arith) in
    rw p (mod_below _ (2 ^ c.args.n) (pow_pos c.args.n))
