-- The texts of lines, by what is cut off the front of octets.
use Rattle.std.proofs.Common.{◌≡◌, ◌∙◌, ◌<◌, ◌≤◌, nat_lt, true, false, ℕ, List, [], ◌∷◌, ◌++◌, length, map, refl, ap}
use Rattle.std.proofs.Common.{arith}
use Rattle.std.proofs.lemmas.Bool.Decides.{nat_tests}
use Rattle.l2_io.specs.Feeds.{until_feed, from_feed, without_return}
use Rattle.line_player.specs.Lines.{tail_of}
use Rattle.line_player.proofs.Cutting.{from-append, until-append, lines-line, tail-line, lines-none}
use Rattle.air_record.specs.declared.record.Record.{Record}
use Rattle.journal_check.specs.Checked.{IsTaken}
use Rattle.journal_check.specs.Grouped.{GroupedRecords, with_record}
use Rattle.check_command.specs.Checking.{text_in, texts_ended, last_text, ReadsLines}

pub text-short : (raw : List ℕ) → length raw ≤ 32768 → text_in raw ≡ without_return raw
text-short raw short = let b : nat_lt 32768 (length raw) ≡ false = grind (arith, nat_tests) in rw b refl

pub text-long : (raw : List ℕ) → 32768 < length raw → text_in raw ≡ raw
text-long raw long = let b : nat_lt 32768 (length raw) ≡ true = grind (arith, nat_tests) in rw b refl

-- a whole line first
pub texts-line : (xs ys : List ℕ) → from_feed xs ≡ 10 ∷ ys
    → texts_ended xs ≡ text_in (until_feed xs) ∷ texts_ended ys
texts-line xs ys e = ap (λ (lines : List (List ℕ)). map text_in lines) (lines-line xs ys e)

-- the same, whatever follows
pub texts-more : (xs ys more : List ℕ) → from_feed xs ≡ 10 ∷ ys
    → texts_ended (xs ++ more) ≡ text_in (until_feed xs) ∷ texts_ended (ys ++ more)
texts-more xs ys more e =
    texts-line (xs ++ more) (ys ++ more) (from-append xs ys more e)
    ∙ ap (λ raw. text_in raw ∷ texts_ended (ys ++ more)) (until-append xs ys more e)

pub tail-more : (xs ys more : List ℕ) → from_feed xs ≡ 10 ∷ ys → tail_of (xs ++ more) ≡ tail_of (ys ++ more)
tail-more xs ys more e = tail-line (xs ++ more) (ys ++ more) (from-append xs ys more e)

-- no whole line
pub texts-none : (xs : List ℕ) → from_feed xs ≡ [] → texts_ended xs ≡ []
texts-none xs e = ap (λ (lines : List (List ℕ)). map text_in lines) (lines-none xs e)

pub last-some : (xs : List ℕ) → 0 < length xs → last_text xs ≡ xs ∷ []
last-some [] some = absurd (omega arith)
last-some (x ∷ xs) some = refl

pub reads-more : (r all : GroupedRecords) (texts : List (List ℕ)) (text : List ℕ) (one : Record)
    → ReadsLines r texts all → IsTaken all text one → ReadsLines r (texts ++ text ∷ []) (with_record one all)
reads-more r all [] text one read taken = rw (← read) (one, taken, refl)
reads-more r all (first ∷ texts) text one read taken =
    (read.0, read.1, reads-more (with_record read.0 r) all texts text one read.2 taken)
