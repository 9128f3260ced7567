-- What a line of its own script does to a terminal.
use Rattle.std.proofs.Common.{◌≡◌, ◌+◌, ◌∙◌, ℕ, List, [], ◌∷◌, refl, ap, sym, subst, append-nil, replicate}
use Rattle.std.specs.Prelude.{Option, None, Some, Result, Ok, Err, IfSome, OnOk}
use Rattle.l2_io.specs.Known.{after}
use Rattle.air_record.specs.Text.{texts_of as texts_of_records}
use Rattle.l2_node.specs.Sums.{left}
use Rattle.air_link.specs.Link.{fresh as fresh_link}
use Rattle.l2_node.specs.End.{fresh as fresh_end}
use Rattle.air_record.specs.declared.line.Line.{Line}
use Rattle.air_record.specs.declared.line.Line.TheVariants.{Tti}
use Rattle.air_record.specs.declared.line.Outcome.{Outcome as Fate}
use Rattle.air_run.specs.Buffers.{no_buffers}
use Rattle.air_run.specs.Rules.{rule_broken}
use Rattle.air_run.specs.Run.{RunState, Left, fresh, step, finish}
use Rattle.air_run.specs.Steps.{Steps, HasStepped, Finishes}
use Rattle.air_run.specs.declared.refusal.RunRefusal.{RunRefusal}
use Rattle.air_run.specs.declared.refusal.StepFault.TheVariants as steps
use Rattle.cell_run.specs.Entries.{Entry, numbered, entry_text, texts_of}
use Rattle.line_player.specs.Journal.{Outcome, Goes, Refuses}
use Rattle.cell_run.specs.Acting.{Acts, PutsText}
use Rattle.cell_run.specs.declared.fault.CellFault.{CellFault}
use Rattle.cell_run.specs.declared.fault.CellFault.TheVariants as cells
use Rattle.line_player.specs.Streams.{WritesFront}
use Rattle.cell_run.specs.Terminals.{Terminal, run_of, behind_step, own_entry, own_step, tti_line, tti_entry}
use Rattle.cell_run.specs.Terminals.{behind_tti, last_entry}
use Rattle.cell_run.specs.declared.fault.CellRule.{CellRule}
use Rattle.cell_run.specs.declared.fault.CellRule.TheVariants as rules
use Rattle.line_player.specs.declared.reason.Reason.TheVariants as reasons

-- the octets that a known text is
pub same-octets : (a b : List ℕ) → Some a ≡ after (Some []) b → a ≡ b
same-octets a b e = cc

-- the text of one entry
pub one-text : (entry : Entry) → texts_of (entry ∷ []) ≡ entry_text entry
one-text entry = append-nil (entry_text entry)

-- a line was run
record HasRun (run : RunState) (number : ℕ) (line : Line) (new : Option RunState) (octets : List ℕ) : Type 0 where
  left : Left
  is : step run number line ≡ Ok left
  state : run_of new ≡ left.state
  text : octets ≡ texts_of_records left.journal

has-run-by : (run : RunState) (number : ℕ) (line : Line) (new : Option RunState) (octets : List ℕ)
    (result : Result Left RunRefusal) → step run number line ≡ result
    → HasStepped result new (Some []) (Some octets) → HasRun run number line new octets
has-run-by run number line new octets (Ok left) is h = record {
  left = left;
  is = is;
  state = ap run_of h.0;
  text = same-octets octets (texts_of_records left.journal) h.1;
}
has-run-by run number line new octets (Err broken) is h = absurd h

has-run : (run new : Option RunState) (number : ℕ) (line : Line) (octets : List ℕ) (fault : Type 0) (u : Unit {0})
    → Steps run number line new (Some []) (Some octets) fault (Ok u)
    → HasRun (run_of run) number line new octets
has-run None new number line octets fault u h = let e = h.0 in cc
has-run (Some run) new number line octets fault u h = has-run-by run number line new octets _ refl h

-- a line of its own script was run, and its text is put, or a front of it
acts-by : (user : ℕ) (line : Line) (t t' : Terminal) (w w' : Option (List ℕ)) (octets : List ℕ) (fault : Type 0)
    (new : Option RunState) (result : Result Unit CellFault)
    → HasRun t.run (t.lines + 1) line new octets → t' ≡ behind_step (run_of new) t
    → PutsText (numbered user octets) w w' fault result
    → Acts (own_step user line t) t' w w' fault result
acts-by user line t t' w w' octets fault new result h is put =
    rw (h.is) (by-result result put)
  where
    text-is : numbered user octets ≡ texts_of (own_entry user line h.left.journal ∷ [])
    text-is = ap (numbered user) h.text ∙ sym (one-text (own_entry user line h.left.journal))

    by-result : (r : Result Unit CellFault) → PutsText (numbered user octets) w w' fault r
        → Acts (Goes (behind_step h.left.state t) (own_entry user line h.left.journal ∷ [])) t' w w' fault r
    by-result (Ok u) p = (
      is ∙ ap (λ (run : RunState). behind_step run t) h.state,
      p ∙ ap (after w) text-is,
    )
    by-result (Err (cells.Refused rule)) p = absurd p
    by-result (Err cells.WriteFault) p = (p.0, subst (λ (text : List ℕ). WritesFront text w w') text-is p.1)
    by-result (Err cells.NoMemory) p = subst (λ (text : List ℕ). WritesFront text w w') text-is p

pub acts-own : (user : ℕ) (line : Line) (t t' : Terminal) (w w' : Option (List ℕ)) (octets : List ℕ)
    (run new : Option RunState) (fault fault' : Type 0) (u : Unit {0}) (result : Result Unit CellFault)
    → t.run ≡ run_of run → Steps run (t.lines + 1) line new (Some []) (Some octets) fault (Ok u)
    → t' ≡ behind_step (run_of new) t → PutsText (numbered user octets) w w' fault' result
    → Acts (own_step user line t) t' w w' fault' result
acts-own user line t t' w w' octets run new fault fault' u result was h is put =
    acts-by user line t t' w w' octets fault' new result
    (rw was (has-run run new (t.lines + 1) line octets fault u h)) is put

-- a line of its own script was refused
pub own-refused : (user : ℕ) (line : Line) (t : Terminal) (run new : Option RunState) (w w' : Option (List ℕ))
    (fault : Type 0) (refusal : RunRefusal)
    → t.run ≡ run_of run → Steps run (t.lines + 1) line new w w' fault (Err (steps.Refused refusal))
    → own_step user line t ≡ Refuses (reasons.Rule (rules.Run refusal))
own-refused user line t None new w w' fault refusal was h = let e = h.0 in cc
own-refused user line t (Some run) new w w' fault refusal was h = rw (was, h.0) refl

-- a sink that doesn't fail doesn't fail a line
pub step-unfailed : (run new : Option RunState) (number : ℕ) (line : Line) (w w' : Option (List ℕ)) (fault : Type 0)
    → (fault → ⊥) → Steps run number line new w w' fault (Err steps.WriteFault) → ⊥
step-unfailed None new number line w w' fault never h = let e = h.0 in cc
step-unfailed (Some run) new number line w w' fault never h = never h.0

-- a TTI is never refused
pub tti-goes : (user up_grant down_grant : ℕ) (t : Terminal)
    → own_step user (tti_line up_grant down_grant t) t
    ≡ Goes (behind_tti up_grant down_grant t) (tti_entry user up_grant down_grant t ∷ [])
unfolding rule_broken
tti-goes user up_grant down_grant t = refl

tti-by : (e : Entry) (t t' : Terminal) (w w' : Option (List ℕ)) (fault : Type 0) (r : Result Unit CellFault)
    → Acts (Goes t (e ∷ [])) t' w w' fault r → OnOk r (t' ≡ t) × PutsText (entry_text e) w w' fault r
tti-by e t t' w w' fault (Ok u) h = (h.0, h.1 ∙ ap (after w) (one-text e))
tti-by e t t' w w' fault (Err (cells.Refused rule)) h = let bad = h.0 in absurd (cc)
tti-by e t t' w w' fault (Err cells.WriteFault) h =
    (tt, (h.0, subst (λ (text : List ℕ). WritesFront text w w') (one-text e) h.1))
tti-by e t t' w w' fault (Err cells.NoMemory) h =
    (tt, subst (λ (text : List ℕ). WritesFront text w w') (one-text e) h)

pub tti-leaves : (user up_grant down_grant : ℕ) (up down : Fate) (t t' : Terminal) (w w' : Option (List ℕ))
    (fault : Type 0) (r : Result Unit CellFault) → up ≡ t.up → down ≡ t.down
    → Acts (own_step user (Tti up_grant up down_grant down) t) t' w w' fault r
    → OnOk r (t' ≡ behind_tti up_grant down_grant t)
    × PutsText (entry_text (tti_entry user up_grant down_grant t)) w w' fault r
tti-leaves user up_grant down_grant up down t t' w w' fault r same-up same-down h =
    tti-by (tti_entry user up_grant down_grant t) (behind_tti up_grant down_grant t) t' w w' fault r
    (subst (λ (o : Outcome Terminal Entry CellRule). Acts o t' w w' fault r) (tti-goes user up_grant down_grant t)
    (rw (same-up, same-down) at h))

-- ---- what is told

pub told-levels : (run : Option RunState) (levels : List ℕ) → IfSome run (λ r. levels ≡ r.buffers.levels)
    → (run ≡ None → levels ≡ replicate 4 0) → levels ≡ (run_of run).buffers.levels
unfolding fresh no_buffers
told-levels None levels some none = none refl
told-levels (Some run) levels some none = some

pub left-behind : (run : Option RunState) (octets : ℕ) → IfSome run (λ r. octets ≡ left r.link.nb)
    → (run ≡ None → octets ≡ 0) → octets ≡ left (run_of run).link.nb
unfolding fresh fresh_link fresh_end left
left-behind None octets some none = none refl
left-behind (Some run) octets some none = some

-- the records at its end
pub last-text : (user : ℕ) (t : Terminal) (run : Option RunState) (octets : List ℕ) (fault : Type 0) (u : Unit {0})
    → t.run ≡ run_of run → Finishes run (Some []) (Some octets) fault (Ok u)
    → numbered user octets ≡ entry_text (last_entry user t)
last-text user t None octets fault u was h = let e = h.0 in cc
last-text user t (Some run) octets fault u was h =
    ap (numbered user) (same-octets octets (texts_of_records (finish run)) h
    ∙ ap (λ (r : RunState). texts_of_records (finish r)) (sym was))
