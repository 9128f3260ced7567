-- A script run line by line for its sums, by the lines that its text says.
use Rattle.std.proofs.Common.{◌≡◌, ◌≤◌, ◌<◌, ◌+◌, ◌∙◌, nat_lt, true, false, ℕ, List, [], ◌∷◌, ◌++◌}
use Rattle.std.proofs.Common.{refl, ap, sym, arith, append-nil}
use Rattle.std.specs.Prelude.{Option, None, Some}
use Rattle.l2_io.specs.Feeds.{until_feed}
use Rattle.l2_io.specs.Known.{HasRisen}
use Rattle.air_record.specs.Text.{text_of, texts_of}
use Rattle.air_record.specs.declared.record.Record.{Record}
use Rattle.air_record.specs.declared.line.Line.{Line}
use Rattle.line_player.specs.Lines.{lines_ended, tail_of}
use Rattle.air_run.specs.Run.{RunState, step}
use Rattle.line_player.specs.Journal.{Outcome, Goes, Ends, Refuses, refused, finished, follow, on_line, close_by}
use Rattle.line_player.specs.Journal.{play, journal_from}
use Rattle.air_run.specs.Journal.{RunPlayed, left_by, script}
use Rattle.air_run.specs.declared.refusal.RunRefusal.{RunRefusal}
use Rattle.line_player.specs.declared.reason.Reason.{Reason}
use Rattle.line_player.specs.declared.reason.Reason.TheVariants as reasons
use Rattle.line_player.proofs.Cutting.{tail-line, from-text, lines-text}
use Rattle.air_run.proofs.Texts.{short-text}
use Rattle.script_generator.specs.Lines.{Says, SayAll}
use Rattle.line_player.specs.declared.player.LineEnd.TheVariants as ends
use Rattle.line_player.specs.declared.ending.Ending.{Ending}
use Rattle.line_player.specs.declared.ending.Ending.TheVariants as endings
use Rattle.line_player.specs.Plays.{RunsLine, Plays, HasPlayed}
use Rattle.l2_commands.specs.Journals.{muted, summing, sums_of, PassesLines}
use Rattle.line_player.proofs.Nothing.{after_none, front_none}
use Rattle.line_player.proofs.Parting.{plays-by}

-- the journal of a line and of those behind it
from-line : (text rest : List ℕ) (s : RunState) (number : ℕ) → until_feed text ≡ text
    → journal_from summing true s number (text ++ 10 ∷ rest)
    ≡ play summing (close_by summing true (tail_of rest)) s number (text ∷ lines_ended rest)
unfolding journal_from
from-line text rest s number one =
    ap (λ (t : List ℕ). play summing (close_by summing true t) s number (lines_ended (text ++ 10 ∷ rest)))
    (tail-line (text ++ 10 ∷ rest) rest (from-text text rest one))
    ∙ ap (λ (ls : List (List ℕ)). play summing (close_by summing true (tail_of rest)) s number ls)
    (lines-text text rest one)

-- what a line does, and what comes after it
line-plays : (text rest : List ℕ) (line : Line) (s : RunState) (number : ℕ) → Says text line → number ≤ 1000000
    → play summing (close_by summing true (tail_of rest)) s number (text ∷ lines_ended rest)
    ≡ follow summing number (muted (left_by line (step s number line)))
    (λ t. journal_from summing true t (number + 1) rest)
unfolding journal_from play on_line
line-plays text rest line s number says few =
    let count : nat_lt 1000000 number ≡ false = grind arith in
    rw (count, short-text text line says.read, says.whole, says.read) refl

line-runs : (octets : List ℕ) (line : Line) (lines : List Line) (s : RunState) (number : ℕ)
    → (h : SayAll octets (line ∷ lines)) → number ≤ 1000000
    → journal_from summing true s number octets
    ≡ follow summing number (muted (left_by line (step s number line)))
    (λ t. journal_from summing true t (number + 1) (h.1))
line-runs octets line lines s number h few =
    ap (λ (t : List ℕ). journal_from summing true s number t) (h.2) ∙ from-line (h.0) (h.1) s number (h.3).one
    ∙ line-plays (h.0) (h.1) line s number (h.3) few

too-many : (octets : List ℕ) (line : Line) (lines : List Line) (s : RunState) (number : ℕ)
    → SayAll octets (line ∷ lines) → 1000000 < number
    → journal_from summing true s number octets ≡ refused number reasons.Lines
unfolding journal_from play on_line
too-many octets line lines s number h many =
    let count : nat_lt 1000000 number ≡ true = grind arith in
    rw (h.2, lines-text (h.0) (h.1) (h.3).one, count) refl

none-left : (octets : List ℕ) (s : RunState) (number : ℕ) → SayAll octets []
    → journal_from summing true s number octets ≡ finished summing s
unfolding journal_from play close_by
none-left octets s number h = rw h refl

-- by how a line ended, what comes after it
then-next : (o : Outcome RunState Record RunRefusal) (new : RunState) (number : ℕ) (next : RunState → RunPlayed)
    → RunsLine text_of o (Some new) None None ⊥ ends.Next → follow summing number (muted o) next ≡ next new
then-next (Goes t journal) new number next h = let same : t ≡ new = cc in ap next same
then-next (Ends t journal) new number next h = absurd h
then-next (Refuses reason) new number next h = absurd h

then-ended : (o : Outcome RunState Record RunRefusal) (new : RunState) (number : ℕ) (next : RunState → RunPlayed)
    → RunsLine text_of o (Some new) None None ⊥ ends.Ended → follow summing number (muted o) next ≡ finished summing new
then-ended (Goes t journal) new number next h = absurd h
then-ended (Ends t journal) new number next h = let same : t ≡ new = cc in ap (finished summing) same
then-ended (Refuses reason) new number next h = absurd h

then-refused : (o : Outcome RunState Record RunRefusal) (new : RunState) (number : ℕ) (reason : Reason RunRefusal)
    (next : RunState → RunPlayed)
    → RunsLine text_of o (Some new) None None ⊥ (ends.Refused reason)
    → follow summing number (muted o) next ≡ refused number reason
then-refused o new number reason next h = rw (h.0) refl

-- the octets of the lines that are still to be run, and the journal from there on
pub record IsLeft (octets : List ℕ) (s : RunState) (number : ℕ) (lines : List Line) : Type 0 where
  pub rest : List ℕ
  pub said : SayAll rest lines
  pub left : sums_of true octets ≡ journal_from summing true s number rest

-- the next line is said by what is left
next-said : (octets : List ℕ) (s : RunState) (number : ℕ) (lines lines' : List Line) → lines ≡ lines'
    → IsLeft octets s number lines → IsLeft octets s number lines'
next-said octets s number lines lines' same h = rw (← same) h

behind : (octets : List ℕ) (line : Line) (lines : List Line) (s : RunState) (number : ℕ)
    → (h : IsLeft octets s number (line ∷ lines)) → number ≤ 1000000
    → sums_of true octets ≡ follow summing number (muted (left_by line (step s number line)))
    (λ t. journal_from summing true t (number + 1) (h.said.1))
behind octets line lines s number h few = h.left ∙ line-runs h.rest line lines s number h.said few

pub goes-on : (octets : List ℕ) (line : Line) (old lines : List Line) (s s' : RunState) (number : ℕ)
    → IsLeft octets s number old → old ≡ line ∷ lines → number ≤ 1000000
    → RunsLine text_of (left_by line (step s number line)) (Some s') None None ⊥ ends.Next → IsLeft octets s'
    (number + 1) lines
goes-on octets line old lines s s' number g is few runs =
    let h = next-said octets s number old (line ∷ lines) is g in
    record {
      rest = h.said.1;
      said = h.said.4;
      left = behind octets line lines s number h few
          ∙ then-next (left_by line (step s number line)) s' number
          (λ t. journal_from summing true t (number + 1) (h.said.1)) runs;
    }

pub goes-over : (octets : List ℕ) (line : Line) (old lines : List Line) (s s' : RunState) (number : ℕ)
    → IsLeft octets s number old → old ≡ line ∷ lines → number ≤ 1000000
    → RunsLine text_of (left_by line (step s number line)) (Some s') None None ⊥ ends.Ended
    → sums_of true octets ≡ finished summing s'
goes-over octets line old lines s s' number g is few runs =
    let h = next-said octets s number old (line ∷ lines) is g in
    behind octets line lines s number h few
    ∙ then-ended (left_by line (step s number line)) s' number
    (λ t. journal_from summing true t (number + 1) (h.said.1)) runs

-- a line that is refused writes nothing
refused-plays : (played : RunPlayed) (number : ℕ) (reason : Reason RunRefusal) → played ≡ refused number reason
    → (w : Option (List ℕ)) → Plays text_of played w w ⊥ ⊥ (endings.Refused number reason)
refused-plays played number reason is w = rw is (refl, after_none w)

pub is-refused : (octets : List ℕ) (line : Line) (old lines : List Line) (s s' : RunState) (number : ℕ)
    (reason : Reason RunRefusal) → IsLeft octets s number old → old ≡ line ∷ lines → number ≤ 1000000
    → RunsLine text_of (left_by line (step s number line)) (Some s') None None ⊥ (ends.Refused reason)
    → PassesLines (sums_of true octets) s' (Some (endings.Refused number reason))
is-refused octets line old lines s s' number reason g is few runs =
    let h = next-said octets s number old (line ∷ lines) is g in
    refused-plays (sums_of true octets) number reason
    (behind octets line lines s number h few
    ∙ then-refused (left_by line (step s number line)) s' number reason
    (λ t. journal_from summing true t (number + 1) (h.said.1)) runs)

pub are-many : (octets : List ℕ) (line : Line) (old lines : List Line) (s s' : RunState) (number : ℕ)
    → IsLeft octets s number old → old ≡ line ∷ lines → 1000000 < number
    → PassesLines (sums_of true octets) s' (Some (endings.Refused number reasons.Lines))
are-many octets line old lines s s' number g is many =
    let h = next-said octets s number old (line ∷ lines) is g in
    refused-plays (sums_of true octets) number reasons.Lines (h.left ∙ too-many h.rest line lines s number h.said many)

pub is-over : (octets : List ℕ) (old : List Line) (s : RunState) (number : ℕ) → IsLeft octets s number old → old ≡ []
    → sums_of true octets ≡ finished summing s
is-over octets old s number g is =
    let h = next-said octets s number old [] is g in h.left ∙ none-left h.rest s number h.said

pub runs-out : (octets : List ℕ) (s : RunState) → PassesLines (sums_of true octets) s (Some endings.NoMemory)
runs-out octets s w = front_none (texts_of (sums_of true octets).journal) w

-- all octets of a script were played
whole-played : (octets : List ℕ) (w w' : Option (List ℕ)) (o o' : Type 0) (ending : Ending RunRefusal) → (o → o')
    → Plays text_of (sums_of true octets) w w' ⊥ o ending
    → HasPlayed text_of sums_of (Some octets) (Some []) w w' (HasRisen 0 0) o' ending
whole-played octets w w' o o' ending more p = record {
  given = octets;
  left_is = ap Some (sym (append-nil octets));
  whole = true;
  end = λ e. refl;
  plays = plays-by _ (sums_of true octets) w w' ⊥ o (HasRisen 0 0) o' ending (λ bad. absurd bad) more p;
}

pub stopped : (octets : List ℕ) (s : RunState) (w : Option (List ℕ)) (o : Type 0) (ending : Ending RunRefusal)
    → PassesLines (sums_of true octets) s (Some ending)
    → HasPlayed text_of sums_of (Some octets) (Some []) w w (HasRisen 0 0) o ending
stopped octets s w o ending p = whole-played octets w w ⊥ o ending (λ bad. absurd bad) (p w)

-- all lines were run, and what stands at the end was written
pub summed : (octets : List ℕ) (s : RunState) (w w' : Option (List ℕ)) (o : Type 0) (ending : Ending RunRefusal)
    → PassesLines (sums_of true octets) s None → Plays text_of (finished script s) w w' ⊥ o ending
    → HasPlayed text_of sums_of (Some octets) (Some []) w w' (HasRisen 0 0) o ending
summed octets s w w' o ending is p = whole-played octets w w' o o ending (λ x. x) (rw is p)
