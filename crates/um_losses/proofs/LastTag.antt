-- The tag that ends an SDU is read from it.
use Rattle.std.proofs.Common.{◌≡◌, ℕ, ◌-◌, ◌<◌, ◌^◌, List, ◌++◌, length, drop, nat_lt, false, length-append, arith}
use Rattle.std.proofs.Common.{refl}
use Rattle.std.proofs.Math.Seq.{drop-append_seam}
use Rattle.std.proofs.lemmas.Nat.{from_be_bytes-to_be_bytes_8}
use Rattle.std.proofs.lemmas.Bool.Decides.{nat_tests}
use Rattle.std.specs.Int.{to_be_bytes, from_be_bytes, w64}
use Rattle.um_losses.specs.Tags.{octets_of, last_tag}

octets-long : (tag : ℕ) → length (to_be_bytes w64 tag) ≡ 8
octets-long tag = refl

reads-at : (sdu octets : List ℕ) (n : ℕ) (tag : ℕ) → from_be_bytes w64 octets ≡ tag → nat_lt (length sdu) 8 ≡ false
    → length sdu - 8 ≡ n → drop n sdu ≡ octets → last_tag sdu ≡ tag
unfolding last_tag
reads-at sdu octets n tag h few at rest = rw (few, at, rest) h

pub reads : (before : List ℕ) (tag : ℕ) → tag < 2 ^ 64 → last_tag (before ++ octets_of tag) ≡ tag
unfolding octets_of
reads before tag h =
    let l = length-append before (to_be_bytes w64 tag) in
    let e = octets-long tag in
    reads-at (before ++ to_be_bytes w64 tag) (to_be_bytes w64 tag) (length before) tag
    (from_be_bytes-to_be_bytes_8 tag h)
    (grind (arith, nat_tests, l, e)) (omega (arith, l, e)) (drop-append_seam before (to_be_bytes w64 tag))
