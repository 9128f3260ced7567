-- What is refused of octets is refused of them whatever follows.
use Rattle.std.proofs.Common.{◌≡◌, ◌⊎◌, ◌∙◌, ◌<◌, ◌≤◌, ◌==◌, Bool, true, false, if◌then◌else◌, cond, ℕ, suc, List, []}
use Rattle.std.proofs.Common.{◌∷◌}
use Rattle.std.proofs.Common.{◌++◌, length, map, refl, ap, sym, subst, arith, inl, inr, append_assoc, length-append}
use Rattle.std.proofs.lemmas.List.{map-append}
use Rattle.l2_io.specs.Feeds.{until_feed, from_feed}
use Rattle.line_player.specs.Lines.{onto_first, onto_tail, lines_ended, tail_of}
use Rattle.line_player.proofs.Cutting.{feed-cases, tail-line, tail-none}
use Rattle.journal_check.specs.declared.fault.CheckWhy.{CheckWhy}
use Rattle.journal_check.specs.declared.fault.CheckWhy.TheVariants as words
use Rattle.journal_check.specs.Checks.{HasNoRecord}
use Rattle.journal_check.specs.Checked.{IsBadText}
use Rattle.journal_check.specs.Grouped.{GroupedRecords, record_count}
use Rattle.check_command.specs.Checking.{text_in, texts_ended, last_text, all_texts, IsHopeless, HasRefused}
use Rattle.check_command.specs.Checking.{HasRefusedBegun, IsUnsound}
use Rattle.check_command.proofs.Texts.{text-long, texts-line, texts-none, last-some}

-- ---- the lines of octets that go on

-- by what an octet's line is
lines-by : (x : ℕ) (lines : List (List ℕ)) (tail more : List ℕ) (all : List (List ℕ)) (b : Bool) → (x == 10) ≡ b
    → all ≡ lines ++ lines_ended (tail ++ more)
    → (if b then [] ∷ all else onto_first x all)
    ≡ (if b then [] ∷ lines else onto_first x lines)
    ++ lines_ended ((if b then tail else onto_tail x lines tail) ++ more)
lines-by x lines tail more all true e is = ap (λ (ls : List (List ℕ)). [] ∷ ls) is
lines-by x [] tail more all false e is = rw e (ap (onto_first x) is)
lines-by x (line ∷ lines) tail more all false e is = ap (onto_first x) is

lines-split : (xs more : List ℕ) → lines_ended (xs ++ more) ≡ lines_ended xs ++ lines_ended (tail_of xs ++ more)
lines-split [] more = refl
lines-split (x ∷ xs) more =
    lines-by x (lines_ended xs) (tail_of xs) more (lines_ended (xs ++ more)) (x == 10) refl (lines-split xs more)

tails-by : (x : ℕ) (lines : List (List ℕ)) (tail more : List ℕ) (all : List (List ℕ)) (rest : List ℕ) (b : Bool)
    → (x == 10) ≡ b → all ≡ lines ++ lines_ended (tail ++ more) → rest ≡ tail_of (tail ++ more)
    → (if b then rest else onto_tail x all rest)
    ≡ tail_of ((if b then tail else onto_tail x lines tail) ++ more)
tails-by x lines tail more all rest true e is end = end
tails-by x [] tail more all rest false e is end = rw (e, is, end) refl
tails-by x (line ∷ lines) tail more all rest false e is end = rw is end

tail-split : (xs more : List ℕ) → tail_of (xs ++ more) ≡ tail_of (tail_of xs ++ more)
tail-split [] more = refl
tail-split (x ∷ xs) more =
    tails-by x (lines_ended xs) (tail_of xs) more (lines_ended (xs ++ more)) (tail_of (xs ++ more)) (x == 10) refl
    (lines-split xs more) (tail-split xs more)

-- the line that has begun goes on
all-split : (xs more : List ℕ) → all_texts (xs ++ more) ≡ texts_ended xs ++ all_texts (tail_of xs ++ more)
all-split xs more =
    ap (λ (lines : List (List ℕ)). map text_in lines ++ last_text (tail_of (xs ++ more))) (lines-split xs more)
    ∙ ap (λ (ts : List (List ℕ)). ts ++ last_text (tail_of (xs ++ more)))
    (map-append text_in (lines_ended xs) (lines_ended (tail_of xs ++ more)))
    ∙ ap (λ (t : List ℕ). (texts_ended xs ++ texts_ended (tail_of xs ++ more)) ++ last_text t) (tail-split xs more)
    ∙ append_assoc (texts_ended xs) (texts_ended (tail_of xs ++ more)) (last_text (tail_of (tail_of xs ++ more)))

no-feed-by : (x : ℕ) (lines : List (List ℕ)) (tail : List ℕ) (b : Bool) → (x == 10) ≡ b → from_feed tail ≡ []
    → from_feed (if b then tail else onto_tail x lines tail) ≡ []
no-feed-by x lines tail true e none = none
no-feed-by x [] tail false e none = rw e none
no-feed-by x (line ∷ lines) tail false e none = none

-- it has no line feed
tail-no-feed : (xs : List ℕ) → from_feed (tail_of xs) ≡ []
tail-no-feed [] = refl
tail-no-feed (x ∷ xs) = no-feed-by x (lines_ended xs) (tail_of xs) (x == 10) refl (tail-no-feed xs)

-- and grows
until-longer : (xs more : List ℕ) → from_feed xs ≡ [] → length xs ≤ length (until_feed (xs ++ more))
until-longer [] more e = omega arith
until-longer (x ∷ xs) more e =
    elim (x == 10) as (λ b. cond b (x ∷ xs) (from_feed xs) ≡ []
    → suc (length xs) ≤ length (cond b [] (x ∷ until_feed (xs ++ more)))) [
      | true ↦ λ h. absurd (cc)
      | false ↦ λ h. omega (arith, until-longer xs more h)
    ] e

-- ---- refusals

refused-longer : (texts more : List (List ℕ)) (at : ℕ) (why : CheckWhy) → HasRefused texts at why
    → HasRefused (texts ++ more) at why
refused-longer texts more at why h = record {
  taken = h.taken;
  text = h.text;
  behind = h.behind ++ more;
  texts_are = ap (λ (ts : List (List ℕ)). ts ++ more) h.texts_are ∙ append_assoc h.taken (h.text ∷ h.behind) more;
  records = h.records;
  read = h.read;
  refused = h.refused;
}

-- a longer text has no record either
none-longer : (count : ℕ) (begun text : List ℕ) (why : CheckWhy)
    → (32768 < length begun) ⊎ ((0 < length begun) × (100000000 ≤ count))
    → (32768 < length begun → 32768 < length text) → HasNoRecord count begun why → HasNoRecord count text why
none-longer count begun text words.Text hopeless longer h = elim hopeless [
  | inl long ↦ let far = longer long in (h.0, λ one is. omega (arith, is.short))
  | inr many ↦ absurd (omega (arith, h.0, many.1))
]
none-longer count begun text words.Records hopeless longer h = h
none-longer count begun text why hopeless longer h = absurd h

bad-longer : (r : GroupedRecords) (begun text : List ℕ) (at : ℕ) (why : CheckWhy) → IsHopeless r begun
    → (32768 < length begun → 32768 < length text) → IsBadText r begun at why → IsBadText r text at why
bad-longer r begun text at why hopeless longer bad =
    record { at_is = bad.at_is; none = none-longer (record_count r) begun text why hopeless longer bad.none }

some-begun : (r : GroupedRecords) (begun : List ℕ) → IsHopeless r begun → 0 < length begun
some-begun r begun (inl long) = omega arith
some-begun r begun (inr many) = many.0

-- the first text of the line that has begun and of what follows
record BeginsWith (begun : List ℕ) (texts : List (List ℕ)) : Type 0 where
  text : List ℕ
  behind : List (List ℕ)
  is : texts ≡ text ∷ behind
  longer : 32768 < length begun → 32768 < length text

begins-with : (begun more : List ℕ) → from_feed begun ≡ [] → 0 < length begun
    → BeginsWith begun (all_texts (begun ++ more))
begins-with begun more none some = elim (feed-cases (begun ++ more)) [
  | inl whole ↦
      let longer = length-append begun more in
      let full : 0 < length (begun ++ more) = omega arith in
      record {
        text = begun ++ more;
        behind = [];
        is = ap (λ (ts : List (List ℕ)). ts ++ last_text (tail_of (begun ++ more))) (texts-none (begun ++ more) whole)
            ∙ ap last_text (tail-none (begun ++ more) whole) ∙ last-some (begun ++ more) full;
        longer = λ long. omega arith;
      }
  | inr cut ↦
      let longer = until-longer begun more none in
      record {
        text = text_in (until_feed (begun ++ more));
        behind = all_texts cut.0;
        is = ap (λ (ts : List (List ℕ)). ts ++ last_text (tail_of (begun ++ more)))
            (texts-line (begun ++ more) cut.0 cut.1)
            ∙ ap (λ (t : List ℕ). (text_in (until_feed (begun ++ more)) ∷ texts_ended cut.0) ++ last_text t)
            (tail-line (begun ++ more) cut.0 cut.1);
        longer = λ long.
            let far : 32768 < length (until_feed (begun ++ more)) = omega arith in
            rw (text-long (until_feed (begun ++ more)) far) far;
      }
]

begun-final : (octets more : List ℕ) (at : ℕ) (why : CheckWhy) → HasRefusedBegun octets at why
    → HasRefused (all_texts (octets ++ more)) at why
begun-final octets more at why h =
    let first =
    begins-with (tail_of octets) more (tail-no-feed octets) (some-begun h.records (tail_of octets) h.hopeless) in
    record {
      taken = texts_ended octets;
      text = first.text;
      behind = first.behind;
      texts_are = all-split octets more ∙ ap (λ (ts : List (List ℕ)). texts_ended octets ++ ts) first.is;
      records = h.records;
      read = h.read;
      refused = inl (bad-longer h.records (tail_of octets) first.text at why h.hopeless first.longer h.refused);
    }

pub final : (octets more : List ℕ) (at : ℕ) (why : CheckWhy) → IsUnsound false octets at why
    → IsUnsound true (octets ++ more) at why
final octets more at why (inl h) =
    inl (subst (λ (ts : List (List ℕ)). HasRefused ts at why) (sym (all-split octets more))
    (refused-longer (texts_ended octets) (all_texts (tail_of octets ++ more)) at why h))
final octets more at why (inr h) = inl (begun-final octets more at why h)
