-- The test of a block is exact: it is canonical for what is read in it, and carries what is named.
use Rattle.std.proofs.Common.{◌≡◌, ℕ, true, ◌&&◌, List, [], ◌∷◌, length, Option, None, Result, Ok, Err, refl, ap, sym}
use Rattle.std.proofs.Common.{◌∙◌}
use Rattle.std.specs.Prelude.{nat_lt, slice_index_or}
use Rattle.std.specs.Str.{bytes_eq}
use Rattle.std.proofs.lemmas.Bool.{and_parts, and_from, lt-ltb, true≢false}
use Rattle.std.proofs.lemmas.Slice.Eq.{bytes_eq-Decides}
use Rattle.mac_pdu.specs.declared.builder.Sdu.{Sdu}
use Rattle.mac_pdu.specs.declared.item.Direction.{Direction}
use Rattle.mac_pdu.specs.declared.fault.MacRefusal.{MacRefusal}
use Rattle.mac_pdu.specs.Items.{MacItem}
use Rattle.mac_pdu.specs.Reading.{reading}
use Rattle.mac_pdu.specs.Writing.{canonical}
use Rattle.pdu_show.specs.declared.kinds.Layout.{Layout}
use Rattle.promises.specs.Names.{SentPdu, AreNamed}
use Rattle.promises.specs.RightForm.{Carries, sdus_in, unpadded, mode_of}
use Rattle.journal_form.specs.Tests.{have_octets, is_canonical_by, names_by, are_named, carries}
use Rattle.journal_form.proofs.NamedPdus.{all_named, named_all, some_octets}

-- ---- SDUs that are named have octets

named_octets : (kinds : List (Option Layout)) (sent : List SentPdu) (sdus : List Sdu)
    → AreNamed (mode_of kinds) sent sdus → have_octets sdus ≡ true
named_octets kinds [] [] h = refl
named_octets kinds [] (d ∷ sdus) h = absurd h
named_octets kinds (s ∷ sent) [] h = absurd h
named_octets kinds (s ∷ sent) (d ∷ sdus) h =
    and_from (nat_lt 0 (length d.octets)) (have_octets sdus)
    (lt-ltb 0 (length d.octets) (some_octets (slice_index_or kinds s.lcid None) s.how s.sn d.octets h.1))
    (named_octets kinds sent sdus h.2)

-- ---- a block

carries_by : (d : Direction) (kinds : List (Option Layout)) (sent : List SentPdu) (octets : List ℕ)
    (r : Result (List MacItem) MacRefusal) → reading d octets ≡ r
    → (names_by kinds sent r && is_canonical_by octets r) ≡ true → Carries d kinds sent octets
carries_by d kinds sent octets (Ok items) h e =
    let p = and_parts (are_named kinds sent (sdus_in items)) (is_canonical_by octets (Ok items)) e in
    let again = canonical (unpadded items) (length octets) in
    let q = and_parts (have_octets (sdus_in items)) (bytes_eq again octets) p.1 in
    record {
      items = items;
      read = h;
      writing_is = sym ((bytes_eq-Decides again octets).0 q.1);
      named = all_named kinds sent (sdus_in items) p.0;
    }
carries_by d kinds sent octets (Err fault) h e = absurd (true≢false (sym e))

pub carries_is : (d : Direction) (kinds : List (Option Layout)) (sent : List SentPdu) (octets : List ℕ)
    → carries d kinds sent octets ≡ true → Carries d kinds sent octets
carries_is d kinds sent octets e = carries_by d kinds sent octets (reading d octets) refl e

pub carries_back : (d : Direction) (kinds : List (Option Layout)) (sent : List SentPdu) (octets : List ℕ)
    → Carries d kinds sent octets → carries d kinds sent octets ≡ true
carries_back d kinds sent octets h =
    let items = h.items in
    let again = canonical (unpadded items) (length octets) in
    ap (λ (r : Result (List MacItem) MacRefusal). names_by kinds sent r && is_canonical_by octets r) h.read
    ∙ and_from (are_named kinds sent (sdus_in items)) (is_canonical_by octets (Ok items))
    (named_all kinds sent (sdus_in items) h.named)
    (and_from (have_octets (sdus_in items)) (bytes_eq again octets) (named_octets kinds sent (sdus_in items) h.named)
    ((bytes_eq-Decides again octets).1 (sym h.writing_is)))
