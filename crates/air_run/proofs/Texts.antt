-- Texts that are read as lines.
use Rattle.std.proofs.Common.{◌≡◌, nat_lt, true, false, if◌then◌else◌, ℕ, List, length, refl}
use Rattle.std.specs.Prelude.{Some, Ok, Err}
use Rattle.air_record.specs.declared.line.Line.{Line}
use Rattle.air_text.specs.Reading.{read_of, read_words}
use Rattle.air_text.specs.Words.{words_of}
use Rattle.air_text.specs.declared.fault.LineRefusal.TheVariants.{Long}

-- a text that is read as a line isn't too long
pub short-text : (text : List ℕ) (line : Line) → read_of text ≡ Ok (Some line) → nat_lt 20000 (length text) ≡ false
unfolding read_of
short-text text line read =
    elim (nat_lt 20000 (length text)) as (λ b. (if b then Err Long else read_words (words_of text)) ≡ Ok (Some line)
    → b ≡ false) [
      | true ↦ λ f. cc
      | false ↦ λ f. refl
    ] read
