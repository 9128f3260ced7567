-- The accounts of flows are one for all checkers: those beside what PDCP gives RLC, of which the SDUs are taken that
-- unacknowledged flows hand up. What is kept is as if each checker had accounts of its own.
use Rattle.std.proofs.Common.{◌≡◌, ℕ, ◌+◌, Bool, List, [], ◌∷◌, Option, Some, None, refl, ap, sym, ◌∙◌, subst}
use Rattle.l2_types.specs.declared.side.Side.{Side}
use Rattle.l2_types.specs.declared.side.Side.TheVariants.{Nb, Ue}
use Rattle.bearer_types.specs.declared.event.Event.{Event}
use Rattle.bearer_types.specs.declared.event.Event.TheVariants as events
use Rattle.bearer_types.specs.Sides.{other}
use Rattle.air_record.specs.declared.line.Line.{Line}
use Rattle.air_record.specs.declared.record.Record.{Record}
use Rattle.air_record.specs.declared.record.Record.TheVariants as records
use Rattle.air_text.specs.Groups.{Group}
use Rattle.journal_takes.specs.FlowTakes.{FlowTakes}
use Rattle.journal_um.specs.declared.pieces.JoinedSdu.{JoinedSdu}
use Rattle.journal_flows.specs.Gathering.{MayTake}
use Rattle.journal_flows.specs.Accounts.{Keeping, after_taking, after_record as record_kept, after_group as group_kept}
use Rattle.journal_flows.specs.Accounts.{kept_within, all_kept}
use Rattle.journal_given.specs.Supplies.{accounts}
use Rattle.journal_given.specs.Giving.{Giving, may_take, settled, with_kept, after_line, after_record, after_group}
use Rattle.journal_given.specs.Giving.{after_records, given_within, all_given, behind_records}
use Rattle.journal_given.proofs.Taking.{SameKept, same_self, same_line, same_record, same_group, same_taken}
use Rattle.journal_given.proofs.Taking.{record_given, group_given}
use Rattle.journal_given.proofs.Ties.{settled_keeps, record_keeps, group_keeps}
use Rattle.journal_edge.specs.EdgeFlow.{EdgeFlow}
use Rattle.journal_edge.specs.EdgeChecking.{EdgeChecking, Beside, ready_at, taken_by, left_by, slots_leave, slot_at}
use Rattle.journal_edge.specs.EdgeChecking.{event_leaves, leaves, group_leaves, beside_line, beside_record}
use Rattle.journal_edge.specs.EdgeChecking.{beside_records, beside_end, all_beside}
use Rattle.journal_edge.specs.EdgeChecking as edge
use Rattle.journal_check.specs.Judging.{Judging, judging_line, judging_record, judging_records, judging_within}
use Rattle.journal_check.specs.Judging.{judging_end, all_judging}
use Rattle.journal_check.proofs.MayTakes.{begun, SaysIn, Says, kept_behind, kept_inside}

-- ---- what a checker leaves of accounts is the same, but for the SDUs

taken_same : (sdus : List JoinedSdu) (from : Side) (lcid : ℕ) (k w : Keeping) → SameKept k w
    → SameKept (taken_by sdus from lcid k) w
taken_same [] from lcid k w s = s
taken_same (sdu ∷ sdus) from lcid k w s =
    taken_same sdus from lcid (after_taking from lcid k) w (same_taken from lcid k w s)

left_same : (from : Side) (lcid : ℕ) (slot : Option EdgeFlow) (k w : Keeping) → SameKept k w
    → SameKept (left_by from lcid k slot) w
left_same from lcid None k w s = s
left_same from lcid (Some f) k w s = taken_same (ready_at from lcid k) from lcid k w s

event_same : (side : Side) (event : Event) (c : EdgeChecking) (k w : Keeping) → SameKept k w
    → SameKept (event_leaves side event k c) w
event_same side (events.Up lcid sdu) c k w s = left_same (other side) lcid (slot_at (other side) lcid c) k w s
event_same side event c k w s = s

record_same : (one : Record) (c : EdgeChecking) (k w : Keeping) → SameKept k w → SameKept (leaves one k c) w
record_same (records.Of side event) c k w s = event_same side event c k w s
record_same one c k w s = s

slots_same : (from : Side) (lcid : ℕ) (slots : List (Option EdgeFlow)) (k w : Keeping) → SameKept k w
    → SameKept (slots_leave from lcid k slots) w
slots_same from lcid [] k w s = s
slots_same from lcid (slot ∷ slots) k w s =
    slots_same from (lcid + 1) slots (left_by from lcid k slot) w (left_same from lcid slot k w s)

group_same : (c : EdgeChecking) (k w : Keeping) → SameKept k w → SameKept (group_leaves k c) w
group_same c k w s = slots_same Ue 0 c.ue (slots_leave Nb 0 k c.nb) w (slots_same Nb 0 c.nb k w s)

-- ---- what is kept beside that of each

-- what is given as if nothing were taken, and the accounts of which SDUs were
pub record IsShared (j : Judging) (g : Giving FlowTakes) (b : Beside) : Type 0 where
  pub given : j.sends.given ≡ with_kept b.kept g
  pub edge : j.edge ≡ b.checked
  pub same : SameKept b.kept g.kept

line_shared : (line : Line) (j : Judging) (g : Giving FlowTakes) (b : Beside) → IsShared j g b
    → IsShared (judging_line line j) (after_line accounts line g) (beside_line line b)
line_shared line j g b h = record {
  given = ap (after_line accounts line) h.given;
  edge = ap (edge.after_line line) h.edge;
  same = same_line line b.kept g.kept h.same;
}

pub same_settled : (one : Record) (k : Keeping) (g : Giving FlowTakes) → SameKept k g.kept
    → SameKept k (settled accounts one g).kept
same_settled one k g s = subst (λ (w : Keeping). SameKept k w) (sym (settled_keeps accounts one g)) s

-- what is given behind a record, before SDUs are taken
pub given_more : (more : Bool) (one : Record) (j : Judging) (g : Giving FlowTakes) (b : Beside)
    → more ≡ may_take accounts one (settled accounts one g) → IsShared j g b
    → after_record accounts one j.sends.given ≡ with_kept (record_kept more one b.kept) (after_record accounts one g)
given_more more one j g b says h =
    ap (after_record accounts one) h.given ∙ record_given accounts one b.kept g h.same
    ∙ ap (λ (m : Bool). with_kept (record_kept m one b.kept) (after_record accounts one g)) (sym says)

pub same_more : (more : Bool) (one : Record) (g : Giving FlowTakes) (k : Keeping)
    → more ≡ may_take accounts one (settled accounts one g) → SameKept k g.kept
    → SameKept (record_kept more one k) (after_record accounts one g).kept
same_more more one g k says s =
    subst (λ (w : Keeping). SameKept (record_kept more one k) w)
    (sym (record_keeps accounts one g ∙ ap (λ (m : Bool). record_kept m one g.kept) (sym says)))
    (same_record more one k g.kept s)

pub record_shared : (more : Bool) (one : Record) (j : Judging) (g : Giving FlowTakes) (b : Beside)
    → more ≡ may_take accounts one (settled accounts one g) → IsShared j g b
    → IsShared (judging_record one j) (after_record accounts one g) (beside_record more one b)
record_shared more one j g b says h =
    let k = record_kept more one b.kept in
    let after = given_more more one j g b says h in
    record {
      given =
          ap (λ (x : Giving FlowTakes). with_kept (leaves one x.kept j.edge) x) after
          ∙ ap (λ (c : EdgeChecking). with_kept (leaves one (record_kept more one b.kept) c)
          (after_record accounts one g)) h.edge;
      edge =
          ap (λ (x : Giving FlowTakes). edge.after_record one x.kept j.edge) after
          ∙ ap (edge.after_record one k) h.edge;
      same = record_same one b.checked k (after_record accounts one g).kept (same_more more one g b.kept says h.same);
    }

-- what is given behind a group, before SDUs are taken
pub given_end : (j : Judging) (g : Giving FlowTakes) (b : Beside) → IsShared j g b
    → after_group accounts j.sends.given ≡ with_kept (group_kept b.kept) (after_group accounts g)
given_end j g b h = ap (after_group accounts) h.given ∙ group_given accounts b.kept g h.same

pub same_end : (g : Giving FlowTakes) (k : Keeping) → SameKept k g.kept
    → SameKept (group_kept k) (after_group accounts g).kept
same_end g k s = subst (λ (w : Keeping). SameKept (group_kept k) w) (sym (group_keeps accounts g))
    (same_group k g.kept s)

end_shared : (j : Judging) (g : Giving FlowTakes) (b : Beside) → IsShared j g b
    → IsShared (judging_end j) (after_group accounts g) (beside_end b)
end_shared j g b h =
    let k = group_kept b.kept in
    let after = given_end j g b h in
    record {
      given =
          ap (λ (x : Giving FlowTakes). with_kept (group_leaves x.kept j.edge) x) after
          ∙ ap (λ (c : EdgeChecking). with_kept (group_leaves (group_kept b.kept) c) (after_group accounts g)) h.edge;
      edge =
          ap (λ (x : Giving FlowTakes). edge.after_group x.kept j.edge) after ∙ ap (edge.after_group k) h.edge;
      same = group_same b.checked k (after_group accounts g).kept (same_end g b.kept h.same);
    }

-- ---- a journal

pub says_so : (may : MayTake) (now : Group) (past : List Group) → SaysIn may now past → (before : List Record)
    (one : Record) (g : Giving FlowTakes) → g ≡ behind_records accounts before (begun now past)
    → may past before one ≡ may_take accounts one (settled accounts one g)
says_so may now past says before one g is =
    says before one ∙ sym (ap (λ (x : Giving FlowTakes). may_take accounts one (settled accounts one x)) is)

records_shared : (may : MayTake) (now : Group) (past : List Group) → SaysIn may now past
    → (before told : List Record) (j : Judging) (g : Giving FlowTakes) (b : Beside)
    → g ≡ behind_records accounts before (begun now past) → IsShared j g b
    → IsShared (judging_records told j) (after_records accounts told g) (beside_records may past before told b)
records_shared may now past says before [] j g b is h = h
records_shared may now past says before (one ∷ told) j g b is h =
    records_shared may now past says (one ∷ before) told (judging_record one j) (after_record accounts one g)
    (beside_record (may past before one) one b) (ap (after_record accounts one) is)
    (record_shared (may past before one) one j g b (says_so may now past says before one g is) h)

begins_shared : (may : MayTake) (now : Group) (past : List Group)
    → IsShared (all_judging past) (all_given accounts past) (all_beside may past)
    → IsShared (judging_line now.line (all_judging past)) (begun now past) (beside_line now.line (all_beside may past))
begins_shared may now past h =
    line_shared now.line (all_judging past) (all_given accounts past) (all_beside may past) h

within_shared : (may : MayTake) (now : Group) (past : List Group) → SaysIn may now past
    → IsShared (all_judging past) (all_given accounts past) (all_beside may past)
    → IsShared (judging_within now (all_judging past)) (given_within accounts now (all_given accounts past))
    (beside_records may past [] now.events (beside_line now.line (all_beside may past)))
within_shared may now past says h =
    records_shared may now past says [] now.events (judging_line now.line (all_judging past)) (begun now past)
    (beside_line now.line (all_beside may past)) refl (begins_shared may now past h)

pub all_shared : (may : MayTake) (past : List Group) → Says may past
    → IsShared (all_judging past) (all_given accounts past) (all_beside may past)
all_shared may [] says = record { given = refl; edge = refl; same = same_self (all_beside may []).kept }
all_shared may (now ∷ past) says =
    end_shared (judging_within now (all_judging past)) (given_within accounts now (all_given accounts past))
    (beside_records may past [] now.events (beside_line now.line (all_beside may past)))
    (within_shared may now past says.0 (all_shared may past says.1))

-- behind the line of a group, and behind its records
pub line_is_shared : (may : MayTake) (now : Group) (past : List Group) → Says may past
    → IsShared (judging_line now.line (all_judging past)) (begun now past) (beside_line now.line (all_beside may past))
line_is_shared may now past says = begins_shared may now past (all_shared may past says)

pub within_is_shared : (may : MayTake) (now : Group) (past : List Group) → Says may (now ∷ past)
    → IsShared (judging_within now (all_judging past)) (given_within accounts now (all_given accounts past))
    (beside_records may past [] now.events (beside_line now.line (all_beside may past)))
within_is_shared may now past says = within_shared may now past says.0 (all_shared may past says.1)

-- ---- the accounts behind the records of a group, and behind its end

pub inside_same : (may : MayTake) (now : Group) (past : List Group) → Says may (now ∷ past)
    → SameKept (judging_within now (all_judging past)).sends.given.kept
    (kept_within may now past (all_kept may past))
inside_same may now past says =
    let h = within_is_shared may now past says in
    subst (λ (w : Keeping). SameKept (judging_within now (all_judging past)).sends.given.kept w)
    (kept_inside may now past says)
    (subst (λ (k : Keeping). SameKept k (given_within accounts now (all_given accounts past)).kept)
    (sym (ap (λ (g : Giving FlowTakes). g.kept) h.given)) h.same)

pub ended_same : (may : MayTake) (now : Group) (past : List Group) → Says may (now ∷ past)
    → SameKept (after_group accounts (judging_within now (all_judging past)).sends.given).kept
    (all_kept may (now ∷ past))
ended_same may now past says =
    let h = within_is_shared may now past says in
    let b = beside_records may past [] now.events (beside_line now.line (all_beside may past)) in
    let g = given_within accounts now (all_given accounts past) in
    subst (λ (w : Keeping). SameKept (after_group accounts (judging_within now (all_judging past)).sends.given).kept w)
    (kept_behind may (now ∷ past) says)
    (subst (λ (k : Keeping). SameKept k (all_given accounts (now ∷ past)).kept)
    (sym (ap (λ (x : Giving FlowTakes). x.kept) (given_end (judging_within now (all_judging past)) g b h)))
    (same_end g b.kept h.same))
