-- A receiver hears and opens what a sender wrote, and the MAC-I agrees.
use Rattle.std.proofs.Common.{◌≡◌, ◌≢◌, ◌<◌, ℕ, ◌+◌, ◌-◌, ◌*◌, ◌%◌, true, false, List, [], ◌∷◌, ◌++◌, length, take}
use Rattle.std.proofs.Common.{drop, length-append, subst, refl, ap, ◌∙◌, arith}
use Rattle.std.specs.Prelude.{bytes_eq, nat_lt, ◌==◌}
use Rattle.std.proofs.lemmas.Bool.{le-ltb, ne_eqb, eq-eqb}
use Rattle.std.proofs.lemmas.List.{length-take-le, take_at, drop_at}
use Rattle.eps_sec.specs.Aes.{aes, add_round_key}
use Rattle.eps_sec.specs.Modes.{cmac, prefix, last_block, last_number, chain}
use Rattle.pdcp_pdu.specs.declared.PdcpKind.TheVariants.{Srb}
use Rattle.pdcp_pdu.specs.Reading.{srb_at}
use Rattle.pdcp_pdu.specs.Grammar.{srb_header}
use Rattle.pdcp_sec.specs.Protection.{Protection, ciphered_with, tag_of}
use Rattle.pdcp_sec.proofs.Lengths.{ciphered_twice, length_ciphered_with}
use Rattle.pdcp_tx.specs.Pdus.{mac_i, pdu}
use Rattle.pdcp_rx.specs.declared.security.Opened.TheVariants.{Sdu}
use Rattle.pdcp_rx.specs.Heard.{Data, heard}
use Rattle.pdcp_rx.specs.Opening.{plain_srb, checked, opened}

-- ---- the MAC-I has four octets

length_aes : (key block : List ℕ) → length (aes key block) ≡ 16
unfolding aes add_round_key
length_aes key block = refl

front_length : (key block : List ℕ) → length (take 4 (aes key block)) ≡ 4
front_length key block = length-take-le 4 (aes key block) (omega (arith, length_aes key block))

length_tag : (p : Protection) (count : ℕ) (message : List ℕ) → length (tag_of p count message) ≡ 4
unfolding tag_of cmac
length_tag p count message =
    let whole = prefix count p.bearer p.direction ++ message in
    front_length p.integrity
    (add_round_key (last_block p.integrity whole) (chain p.integrity whole (last_number whole)))

length_mac_i : (p : Protection) (count : ℕ) (sdu : List ℕ) → length (mac_i p count sdu) ≡ 4
unfolding mac_i
length_mac_i p count sdu = length_tag p count (srb_header 0 (count % 32) ++ sdu)

-- ---- it is heard by its number

some_length : (xs : List ℕ) → xs ≢ [] → 0 < length xs
some_length [] some = absurd (some refl)
some_length (x ∷ xs) some = omega arith

-- what is ciphered
abbrev text : Protection → ℕ → List ℕ → List ℕ
text p count sdu = sdu ++ mac_i p count sdu

length_text : (p : Protection) (count : ℕ) (sdu : List ℕ) → length (text p count sdu) ≡ length sdu + 4
length_text p count sdu = omega (arith, length-append sdu (mac_i p count sdu), length_mac_i p count sdu)

pub heard_as_written : (p : Protection) (count : ℕ) (sdu : List ℕ) → sdu ≢ []
    → heard Srb (pdu Srb p count sdu) ≡ Data (count % 32) (pdu Srb p count sdu)
unfolding heard pdu srb_at
heard_as_written p count sdu some =
    let whole = srb_header 0 (count % 32) ++ ciphered_with p count (text p count sdu) in
    let size : length whole ≡ length sdu + 5 =
    omega (arith, length_ciphered_with p count (text p count sdu), length_text p count sdu) in
    let long : nat_lt (length whole) 5 ≡ false = le-ltb (length whole) 5 (omega (arith, size)) in
    let longer : (length whole == 5) ≡ false =
    ne_eqb (length whole) 5 (λ e. omega (arith, e, size, some_length sdu some)) in
    let value : (0 * 32 + count % 32) % 32 ≡ count % 32 = omega arith in
    rw (long, longer) (ap (λ sn. Data sn whole) value)

-- ---- it opens to its SDU

bytes_same : (xs : List ℕ) → bytes_eq xs xs ≡ true
bytes_same [] = refl
bytes_same (x ∷ xs) = rw (eq-eqb x x refl) (bytes_same xs)

-- of what is plain again the last four octets are the MAC-I of those before
checks : (p : Protection) (count : ℕ) (header sdu tag : List ℕ) → length header ≡ 1 → length tag ≡ 4
    → tag ≡ tag_of p count (header ++ sdu) → checked p count ((header ++ sdu) ++ tag) ≡ Sdu (drop 1 (header ++ sdu))
unfolding checked
checks p count header sdu tag one four is =
    let plain = (header ++ sdu) ++ tag in
    let size : length plain - 4 ≡ length (header ++ sdu) = omega (arith, length-append (header ++ sdu) tag, four) in
    let front : take (length plain - 4) plain ≡ header ++ sdu =
    ap (λ n. take n plain) size ∙ take_at (header ++ sdu) tag (length (header ++ sdu)) refl in
    let back : drop (length plain - 4) plain ≡ tag = ap (λ n. drop n plain) size
    ∙ drop_at (header ++ sdu) tag (length (header ++ sdu)) refl in
    let same : bytes_eq tag (tag_of p count (header ++ sdu)) ≡ true =
    subst (λ t. bytes_eq tag t ≡ true) is (bytes_same tag) in
    rw (front, back, same) refl

-- deciphered it is plain again
plain_again : (p : Protection) (count sn : ℕ) (rest : List ℕ)
    → plain_srb p count (srb_header 0 sn ++ ciphered_with p count rest) ≡ srb_header 0 sn ++ rest
unfolding plain_srb
plain_again p count sn rest = ap (λ l. srb_header 0 sn ++ l) (ciphered_twice p count rest)

pub opened_again : (p : Protection) (count : ℕ) (sdu : List ℕ) → opened Srb p count (pdu Srb p count sdu) ≡ Sdu sdu
unfolding opened pdu mac_i
opened_again p count sdu =
    let header = srb_header 0 (count % 32) in
    ap (checked p count) (plain_again p count (count % 32) (text p count sdu))
    ∙ checks p count header sdu (mac_i p count sdu) refl (length_mac_i p count sdu) refl
