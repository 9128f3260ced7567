-- The journal of a script is the history of its groups, and the sums at its end.
use Rattle.std.proofs.Common.{◌≡◌, ◌≤◌, ◌+◌, ◌==◌, ◌∙◌, nat_lt, ℕ, Bool, true, false, List, [], ◌∷◌, ◌++◌, length, map}
use Rattle.std.proofs.Common.{refl, ap, sym, subst, cond, arith, append-nil, append_assoc}
use Rattle.std.specs.Prelude.{Option, Some, None, Result, Ok, Err}
use Rattle.std.specs.List.{AllByRecursion, filter}
use Rattle.std.proofs.lemmas.Bool.Decides.{nat_tests}
use Rattle.l2_io.specs.Feeds.{without_return}
use Rattle.air_record.specs.declared.line.Line.{Line}
use Rattle.air_text.specs.declared.fault.LineRefusal.{LineRefusal}
use Rattle.air_text.specs.declared.fault.LineRefusal.TheVariants.{Long}
use Rattle.air_record.specs.declared.record.Record.{Record}
use Rattle.line_player.specs.declared.reason.Reason.{Reason}
use Rattle.line_player.specs.declared.reason.Reason.TheVariants as reasons
use Rattle.line_player.specs.Lines.{lines_ended, tail_of}
use Rattle.air_run.specs.Run.{RunState, fresh, finish}
use Rattle.line_player.specs.Journal.{Outcome, Goes, Ends, Refuses, Finished, Refused, Waiting, onto}
use Rattle.line_player.specs.Journal.{finished, refused, waiting, follow, on_line, on_last, close_by, play}
use Rattle.line_player.specs.Journal.{journal_from}
use Rattle.air_run.specs.Journal.{RunPlayed, RunClose, journal_of, script, script_line}
use Rattle.air_run.specs.declared.refusal.RunRefusal.{RunRefusal}
use Rattle.air_text.specs.Groups.{Group, history}
use Rattle.air_text.specs.Reading.{read_of}
use Rattle.law_run.specs.Order.{state_behind, KeepsOrder}
use Rattle.law_run.specs.Script.{NumberedLine, said, said_from, is_end, to_end, before, last_text, texts, lines_of}
use Rattle.law_run.specs.Sums.{sums_at}
use Rattle.law_run.proofs.Ending.{finish_told}
use Rattle.law_run.proofs.Past.{behind}
use Rattle.law_run.proofs.Growing.{Grows, LineTo, line-to}

-- ---- lines with numbers

-- all at a number or above it
abbrev pub StandFrom : ℕ → List NumberedLine → Type 0
StandFrom number all = AllByRecursion (λ one. number ≤ one.number) all

stand_both : (number : ℕ) (xs ys : List NumberedLine) → StandFrom number xs → StandFrom number ys
    → StandFrom number (xs ++ ys)
stand_both number [] ys p q = q
stand_both number (x ∷ xs) ys p q = (p.0, stand_both number xs ys p.1 q)

said_stand : (least number : ℕ) (read : Result (Option Line) LineRefusal) → least ≤ number
    → StandFrom least (said number read)
said_stand least number (Ok (Some line)) h = (h, tt)
said_stand least number (Ok None) h = tt
said_stand least number (Err broken) h = tt

from_stand : (least number : ℕ) (all : List (List ℕ)) → least ≤ number → StandFrom least (said_from number all)
from_stand least number [] h = tt
from_stand least number (text ∷ all) h =
    stand_both least (said number (read_of text)) (said_from (number + 1) all)
    (said_stand least number (read_of text) h) (from_stand least (number + 1) all (omega (arith, h)))

end_by : (b : Bool) (number : ℕ) (all : List NumberedLine) → StandFrom number all → StandFrom number (cond b [] all)
end_by true number all h = tt
end_by false number all h = h

end_stand : (number : ℕ) (all : List NumberedLine) → StandFrom number all → StandFrom number (to_end all)
end_stand number [] h = tt
end_stand number (x ∷ xs) h = (h.0, end_by (is_end x.line) number (to_end xs) (end_stand number xs h.1))

-- none of them is before the one that is refused
not_before : (x number : ℕ) → number ≤ x → nat_lt x number ≡ false
not_before x number h = grind (arith, nat_tests, h)

is_before : (x number : ℕ) → x + 1 ≤ number → nat_lt x number ≡ true
is_before x number h = grind (arith, nat_tests, h)

none_before : (number : ℕ) (all : List NumberedLine) → StandFrom number all
    → filter (λ (one : NumberedLine). nat_lt one.number number) all ≡ []
none_before number [] h = refl
none_before number (x ∷ xs) h =
    ap (λ b. cond b (x ∷ filter (λ (one : NumberedLine). nat_lt one.number number) xs)
    (filter (λ (one : NumberedLine). nat_lt one.number number) xs)) (not_before x.number number h.0)
    ∙ none_before number xs h.1

-- a text from a number on is refused, if any is
abbrev pub IsRefusedFrom : ℕ → RunClose → Type 0
IsRefusedFrom number (Refused at reason) = number ≤ at
IsRefusedFrom number close = Unit {0}

refused_later : (number : ℕ) (close : RunClose) → IsRefusedFrom (number + 1) close → IsRefusedFrom number close
refused_later number (Refused at reason) h = omega (arith, h)
refused_later number Finished h = tt
refused_later number Waiting h = tt

-- and what a text says is before that
said_before : (close : RunClose) (number : ℕ) (read : Result (Option Line) LineRefusal) (all : List NumberedLine)
    → IsRefusedFrom (number + 1) close → before close (said number read ++ all) ≡ said number read ++ before close all
said_before Finished number read all h = refl
said_before Waiting number read all h = refl
said_before (Refused at reason) number (Ok None) all h = refl
said_before (Refused at reason) number (Err broken) all h = refl
said_before (Refused at reason) number (Ok (Some line)) all h =
    let one : NumberedLine = record { number = number; line = line } in
    let rest = filter (λ (x : NumberedLine). nat_lt x.number at) all in
    ap (λ b. cond b (one ∷ rest) rest) (is_before number at h)

-- ---- what is played

-- behind groups, of texts from a number on that say these lines: further groups, and the sums
pub record Tells (past : List Group) (number : ℕ) (these : List NumberedLine) (played : RunPlayed) : Type 0 where
  pub later : List Group
  pub part : List Record
  pub order : KeepsOrder later
  pub history_is : history later ≡ history past ++ part
  pub journal_is : played.journal ≡ part ++ sums_at played.close later
  pub refused_from : IsRefusedFrom number played.close
  pub lines_are : lines_of later ≡ lines_of past ++ before played.close these

tells-end : (past : List Group) (number : ℕ) (r : RunState) → r ≡ state_behind past → KeepsOrder past
    → Tells past number [] (finished script r)
tells-end past number r h order = record {
  later = past;
  part = [];
  order = order;
  history_is = sym (append-nil (history past));
  journal_is = ap finish h ∙ finish_told past (behind past order);
  refused_from = tt;
  lines_are = sym (append-nil (lines_of past));
}

tells-nothing : (past : List Group) (number : ℕ) (these : List NumberedLine) (close : RunClose)
    → sums_at close past ≡ []
    → IsRefusedFrom number close → before close these ≡ [] → KeepsOrder past
    → Tells past number these (record { journal = []; close = close })
tells-nothing past number these close none from no_line order =
    record {
      later = past;
      part = [];
      order = order;
      history_is = sym (append-nil (history past));
      journal_is = sym none;
      refused_from = from;
      lines_are = sym (ap (λ (xs : List NumberedLine). lines_of past ++ xs) no_line ∙ append-nil (lines_of past));
    }

tells-refused : (past : List Group) (number : ℕ) (these : List NumberedLine) (reason : Reason RunRefusal)
    → StandFrom number these → KeepsOrder past → Tells past number these (refused number reason)
tells-refused past number these reason stand order =
    tells-nothing past number these (Refused number reason) refl (omega arith) (none_before number these stand) order

tells-on : (past : List Group) (t : RunState) (part : List Record) (number : ℕ)
    (read : Result (Option Line) LineRefusal) (g : Grows past t part (said number read)) (more : List NumberedLine)
    (later : RunPlayed) → Tells g.later (number + 1) more later
    → Tells past number (said number read ++ more) (onto part later)
tells-on past t part number read g more later k = record {
  later = k.later;
  part = part ++ k.part;
  order = k.order;
  history_is = k.history_is ∙ ap (λ rs. rs ++ k.part) g.history_is ∙ append_assoc (history past) part k.part;
  journal_is = ap (λ rs. part ++ rs) k.journal_is ∙ sym (append_assoc part k.part (sums_at later.close k.later));
  refused_from = refused_later number later.close k.refused_from;
  lines_are = k.lines_are ∙ ap (λ (xs : List NumberedLine). xs ++ before later.close more) g.lines_are
      ∙ append_assoc (lines_of past) (said number read) (before later.close more)
      ∙ ap (λ (xs : List NumberedLine). lines_of past ++ xs)
      (sym (said_before later.close number read more k.refused_from));
}

-- whatever state comes next, what follows tells of it
abbrev pub TellsNext : ℕ → List NumberedLine → (RunState → RunPlayed) → Type 0
TellsNext number these next =
    (past : List Group) (r : RunState) → r ≡ state_behind past → KeepsOrder past → Tells past number these (next r)

-- the lines that texts from one on say
abbrev pub all_said : ℕ → List ℕ → List (List ℕ) → List NumberedLine
all_said number text more = to_end (said_from number (text ∷ more))

said_stand_so : (number : ℕ) (text : List ℕ) (more : List (List ℕ)) → StandFrom number (all_said number text more)
said_stand_so number text more =
    end_stand number (said_from number (text ∷ more)) (from_stand number number (text ∷ more) (omega arith))

tells-line : (past : List Group) (number : ℕ) (text : List ℕ) (more : List (List ℕ))
    (line : Outcome RunState Record RunRefusal)
    (next : RunState → RunPlayed) → LineTo past (said number (read_of text)) line → KeepsOrder past
    → TellsNext (number + 1) (to_end (said_from (number + 1) more)) next
    → Tells past number (all_said number text more) (follow script number line next)
tells-line past number text more (Goes t part) next g order on =
    let read = read_of text in
    subst (λ (xs : List NumberedLine). Tells past number xs (onto part (next t)))
    (sym (g.goes (said_from (number + 1) more)))
    (tells-on past t part number read g.grows (to_end (said_from (number + 1) more)) (next t)
    (on g.grows.later t g.grows.state_is g.grows.order))
tells-line past number text more (Ends t part) next g order on =
    let read = read_of text in
    subst (λ (xs : List NumberedLine). Tells past number xs (onto part (finished script t)))
    (append-nil (said number read) ∙ sym (g.ends (said_from (number + 1) more)))
    (tells-on past t part number read g.grows [] (finished script t)
    (tells-end g.grows.later (number + 1) t g.grows.state_is g.grows.order))
tells-line past number text more (Refuses reason) next g order on =
    tells-refused past number (all_said number text more) reason (said_stand_so number text more) order

line-at : (past : List Group) (r : RunState) (number : ℕ) (text : List ℕ) → r ≡ state_behind past → KeepsOrder past
    → LineTo past (said number (read_of text)) (script_line r number text)
line-at past r number text h order = rw h (line-to past number text order)

tells-on-line : (past : List Group) (r : RunState) (number : ℕ) (raw : List ℕ) (more : List (List ℕ))
    (next : RunState → RunPlayed)
    → r ≡ state_behind past → KeepsOrder past → TellsNext (number + 1) (to_end (said_from (number + 1) more)) next
    → Tells past number (all_said number (without_return raw) more) (on_line script r number raw next)
unfolding on_line
tells-on-line past r number raw more next h order on = by (nat_lt 1000000 number) (nat_lt 20000 (length raw))
  where
    stand : StandFrom number (all_said number (without_return raw) more)
    stand = said_stand_so number (without_return raw) more

    by : (a b : Bool)
        → Tells past number (all_said number (without_return raw) more)
        (cond a (refused number reasons.Lines)
        (cond b (refused number (reasons.Line Long))
        (follow script number (script_line r number (without_return raw)) next)))
    by true b = tells-refused past number _ reasons.Lines stand order
    by false true = tells-refused past number _ (reasons.Line Long) stand order
    by false false =
        tells-line past number (without_return raw) more (script_line r number (without_return raw)) next
        (line-at past r number (without_return raw) h order) order on

tells-on-last : (past : List Group) (r : RunState) (number : ℕ) (raw : List ℕ) → r ≡ state_behind past
    → KeepsOrder past → Tells past number (all_said number raw []) (on_last script r number raw)
unfolding on_last
tells-on-last past r number raw h order = by (nat_lt 1000000 number) (nat_lt 20000 (length raw))
  where
    by : (a b : Bool)
        → Tells past number (all_said number raw [])
        (cond a (refused number reasons.Lines)
        (cond b (refused number (reasons.Line Long))
        (follow script number (script_line r number raw) (finished script))))
    by true b = tells-refused past number _ reasons.Lines (said_stand_so number raw []) order
    by false true = tells-refused past number _ (reasons.Line Long) (said_stand_so number raw []) order
    by false false =
        tells-line past number raw [] (script_line r number raw) (finished script) (line-at past r number raw h order)
        order (λ later t. tells-end later (number + 1) t)

tells-close : (whole : Bool) (tail : List ℕ) (past : List Group) (r : RunState) (number : ℕ) → r ≡ state_behind past
    → KeepsOrder past
    → Tells past number (to_end (said_from number (last_text whole tail))) (close_by script whole tail r number)
unfolding close_by
tells-close true tail past r number h order = by (length tail == 0)
  where
    by : (a : Bool)
        → Tells past number (to_end (said_from number (cond a [] (tail ∷ []))))
        (cond a (finished script r) (on_last script r number tail))
    by true = tells-end past number r h order
    by false = tells-on-last past r number tail h order
tells-close false tail past r number h order =
    by (length tail == 0) (nat_lt 1000000 number) (nat_lt 20000 (length tail))
  where
    by : (a b c : Bool)
        → Tells past number []
        (cond a waiting (cond b (refused number reasons.Lines) (cond c (refused number (reasons.Line Long)) waiting)))
    by true b c = tells-nothing past number [] Waiting refl tt refl order
    by false true c = tells-refused past number [] reasons.Lines tt order
    by false false true = tells-refused past number [] (reasons.Line Long) tt order
    by false false false = tells-nothing past number [] Waiting refl tt refl order

-- the texts of lines that line feeds end, and of what stands behind
abbrev pub texts_of : Bool → List ℕ → List (List ℕ) → List (List ℕ)
texts_of whole tail ended = map without_return ended ++ last_text whole tail

tells-play : (whole : Bool) (tail : List ℕ) (ended : List (List ℕ)) (number : ℕ) (past : List Group) (r : RunState)
    → r ≡ state_behind past → KeepsOrder past
    → Tells past number (to_end (said_from number (texts_of whole tail ended)))
    (play script (close_by script whole tail) r number ended)
unfolding play
tells-play whole tail [] number past r h order = tells-close whole tail past r number h order
tells-play whole tail (raw ∷ ended) number past r h order =
    tells-on-line past r number raw (texts_of whole tail ended) _ h order
    (λ later t stands on. tells-play whole tail ended (number + 1) later t stands on)

pub tells-all : (whole : Bool) (octets : List ℕ)
    → Tells [] 1 (to_end (said_from 1 (texts whole octets))) (journal_of whole octets)
unfolding journal_from
tells-all whole octets = tells-play whole (tail_of octets) (lines_ended octets) 1 [] fresh refl tt
