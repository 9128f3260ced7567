-- Line by line: the checker's verdict is that of the groups.
use Rattle.std.proofs.Common.{◌≡◌, ◌≤◌, ℕ, zero, suc, ◌+◌, ◌%◌, Bool, true, false}
use Rattle.std.proofs.Common.{List, [], ◌∷◌, ◌++◌, length, refl, ap, sym, subst}
use Rattle.std.proofs.Common.{◌∙◌, arith, nat_le, get_or, replicate, length-append}
use Rattle.std.specs.Prelude.{IsTrue, ◌↔◌}
use Rattle.std.proofs.lemmas.Bool.{and_parts, and_from, leb-true, le-leb}
use Rattle.std.proofs.lemmas.List.Elements.{filter-append}
use Rattle.std.specs.List.{filter}
use Rattle.air_record.specs.declared.line.Line.{Line}
use Rattle.air_record.specs.declared.line.Line.TheVariants as lines
use Rattle.air_record.specs.declared.record.Record.{Record}
use Rattle.air_record.specs.declared.record.Record.TheVariants as records
use Rattle.air_text.specs.Groups.{Group, group_records, history}
use Rattle.mac_pdu.specs.declared.item.Direction.TheVariants.{Down, Up}
use Rattle.promises.specs.Air.{is_tti, ttis}
use Rattle.promises.specs.Carried.{IsCarried}
use Rattle.harq.specs.Sending.{SendProcess, empty, ndi_of}
use Rattle.harq.specs.Sending.{fresh as fresh_sending}
use Rattle.harq.specs.Receiving.{fresh as fresh_receiving}
use Rattle.promises.specs.Heard.{Flight}
use Rattle.promises.specs.Heard.{nothing_heard, heard, hears, loses, visits, visits_by}
use Rattle.promises.specs.Parts.{part_of_line}
use Rattle.journal_air.specs.Checking.{Checking, nothing_checked, after_tti}
use Rattle.journal_air.specs.Checking.{after_records}
use Rattle.journal_air.specs.Checking.{has_visits, after_line, is_met, after_group, all_checked}
use Rattle.promises.specs.RightAir.{is_of_time, HasItsTtis, GroupIsRight, AirIsRight}
use Rattle.journal_air.specs.Ends.{BothEnds, fresh_ends, reset_ends}
use Rattle.journal_air.proofs.Senders.{sends_fresh}
use Rattle.journal_air.proofs.Receivers.{hears_fresh, asks_fresh}
use Rattle.journal_air.proofs.Downlink.{DownKnows}
use Rattle.journal_air.proofs.Uplink.{UpKnows}
use Rattle.journal_air.proofs.Tellings.{heard_append}
use Rattle.journal_air.proofs.Steps.{after_filter, heard_filter, AllZero, zero_filter, zero_all, front, chunks}
use Rattle.journal_air.proofs.Steps.{joined, told_cut, counts_ttis, front_inside}
use Rattle.journal_air.proofs.Steps.{chunks_inside}
use Rattle.journal_air.proofs.Steps.{steps, closed_after, finish, ended_is, closed_still, after_still}
use Rattle.journal_air.proofs.Steps.{steps_still, no_front}
use Rattle.journal_air.proofs.Ttis.{Hearings, heard_more, past_of, Knows, Carries, carries_now}
use Rattle.journal_air.proofs.Lines.{SameHeard, knows_same, carries_same, line_sound, line_complete}

-- ---- a line begins

blank_ndi : (maximum p : ℕ) → ndi_of (fresh_sending maximum) p ≡ false
unfolding ndi_of fresh_sending
blank_ndi maximum p = ap (λ (x : SendProcess). x.ndi) (empty_at 8 (p % 8))
  where
    empty_at : (n q : ℕ) → get_or (replicate n empty) q empty ≡ empty
    empty_at zero q = refl
    empty_at (suc n) zero = refl
    empty_at (suc n) (suc q) = empty_at n q

fresh_down : (maximum : ℕ) → DownKnows maximum (fresh_ends maximum) (λ p. [])
fresh_down maximum = record {
  sends = sends_fresh true maximum (λ p. []) (λ p lt. refl);
  hears = hears_fresh maximum (λ p. []) (λ p lt. refl);
  built = λ p lt. tt;
}

fresh_up : (maximum : ℕ) → UpKnows maximum (fresh_ends maximum) (λ p. [])
fresh_up maximum = record {
  sends = sends_fresh false maximum (λ p. []) (λ p lt. refl);
  asks = asks_fresh maximum (λ p. []) (λ p lt. refl);
  last = λ p lt. blank_ndi maximum p;
  visits_are = λ p lt. tt;
}

reset_down : (maximum : ℕ) (e : BothEnds) (fl : ℕ → List Flight) → DownKnows maximum e fl
    → DownKnows maximum (reset_ends e) (λ p. [])
reset_down maximum e fl k =
    subst (λ (n : ℕ). DownKnows maximum
    (record { sender = fresh_sending n; receiver = fresh_receiving e.receiver.maximum })
    (λ p. [])) (sym k.sends.maximum_is)
    (subst (λ (n : ℕ). DownKnows maximum (record { sender = fresh_sending maximum; receiver = fresh_receiving n })
    (λ p. [])) (sym k.hears.maximum_is) (fresh_down maximum))

reset_up : (maximum : ℕ) (e : BothEnds) (fl : ℕ → List Flight) → UpKnows maximum e fl
    → UpKnows maximum (reset_ends e) (λ p. [])
reset_up maximum e fl k =
    subst (λ (n : ℕ). UpKnows maximum
    (record { sender = fresh_sending n; receiver = fresh_receiving e.receiver.maximum })
    (λ p. [])) (sym k.sends.maximum_is)
    (subst (λ (n : ℕ). UpKnows maximum (record { sender = fresh_sending maximum; receiver = fresh_receiving n })
    (λ p. [])) (sym k.asks.maximum_is) (fresh_up maximum))

abbrev line_heard : ℕ → Line → Hearings → Hearings
line_heard number line hs = heard_more (records.Line number line ∷ []) hs

begin_knows : (line : Line) (number maximum : ℕ) (a b : Bool) (c : Checking) (hs : Hearings) → Knows maximum a b c hs
    → has_visits line ≡ true
    → Knows (visits_by line maximum) (loses Down line) (loses Up line) (after_line line c) (line_heard number line hs)
begin_knows (lines.Harq visits') number maximum a b c hs k e = record {
  some = leb-true 1 visits' e;
  is_right = and_from c.right (nat_le 1 visits') k.is_right e;
  rests = refl;
  down = fresh_down visits';
  up = fresh_up visits';
  down_lost_is = λ p. refl;
  up_lost_is = λ p. refl;
}
begin_knows (lines.Handover user rrc integrity) number maximum a b c hs k e = record {
  some = k.some;
  is_right = and_from c.right true k.is_right refl;
  rests = refl;
  down = reset_down maximum c.down (past_of hs Down) k.down;
  up = reset_up maximum c.up (past_of hs Up) k.up;
  down_lost_is = λ p. refl;
  up_lost_is = λ p. refl;
}
begin_knows line number maximum a b c hs k e = record {
  some = k.some;
  is_right = and_from c.right true k.is_right refl;
  rests = refl;
  down = k.down;
  up = k.up;
  down_lost_is = λ p. refl;
  up_lost_is = λ p. refl;
}

has_some : (line : Line) (maximum : ℕ) → 1 ≤ visits_by line maximum → has_visits line ≡ true
has_some (lines.Harq visits') maximum some = le-leb 1 visits' some
has_some line maximum some = refl

-- ---- groups

abbrev pub heard_past : List Group → Hearings
heard_past past d p = heard d p (history past) nothing_heard

pub record Stands (past : List Group) (c : Checking) : Type 0 where
  pub down_lost : Bool
  pub up_lost : Bool
  pub knows : Knows (visits past) down_lost up_lost c (heard_past past)
  pub next_is : c.next ≡ ttis past

-- what was heard before a group, its line and its records of time
group_heard : (g : Group) (past : List Group)
    → SameHeard (heard_more (filter is_of_time g.events) (line_heard g.number g.line (heard_past past)))
    (heard_past (g ∷ past))
group_heard g past d p =
    heard_filter d p g.events (hears d p (records.Line g.number g.line) (heard_past past d p))
    ∙ sym (heard_append d p (history past) (group_records g) nothing_heard)

group_ttis : (g : Group) (past : List Group)
    → ttis (g ∷ past) ≡ ttis past + length (chunks (filter is_of_time g.events))
group_ttis g past =
    ap (λ (l : List Record). length l) (filter-append is_tti (history past) (group_records g))
    ∙ length-append (filter is_tti (history past)) (filter is_tti g.events)
    ∙ ap (λ (n : ℕ). ttis past + n) (counts_ttis g.events)

-- the end of a group, TTI by TTI
group_end : (g : Group) (c : Checking)
    → after_group (after_records g.events (after_line g.line c))
    ≡ finish (steps (chunks (filter is_of_time g.events))
    (after_tti (after_records (front (filter is_of_time g.events)) (after_line g.line c))))
group_end g c =
    ended_is (after_records g.events (after_line g.line c))
    ∙ ap (λ (x : Checking). finish (after_tti x)) (sym (after_filter g.events (after_line g.line c)))
    ∙ ap finish (closed_after (filter is_of_time g.events) (after_line g.line c))

group_front : (told : List Record) (line : Line) (c : Checking) → front told ≡ []
    → after_tti (after_records (front told) (after_line line c)) ≡ after_line line c
group_front told line c e = ap (λ (l : List Record). after_tti (after_records l (after_line line c))) e

pub record GroupSound (g : Group) (past : List Group) (c : Checking) : Type 0 where
  pub was_right : c.right ≡ true
  pub is : Stands past c
      → GroupIsRight g past × Stands (g ∷ past) (after_group (after_records g.events (after_line g.line c)))

visits_some : (line : Line) (maximum : ℕ) → has_visits line ≡ true → 1 ≤ maximum → 1 ≤ visits_by line maximum
visits_some (lines.Harq visits') maximum e some = leb-true 1 visits' e
visits_some line maximum e some = some

carried_is : (g : Group) (past : List Group) → Carries (visits (g ∷ past)) (heard_past (g ∷ past))
    → IsCarried (g ∷ past)
carried_is g past k = record {
  down_resent = k.down_resent;
  down_built = k.down_built;
  down_answered = k.down_answered;
  up_resent = k.up_resent;
  up_visits = k.up_visits;
}

is_carried_so : (g : Group) (past : List Group) → IsCarried (g ∷ past)
    → Carries (visits (g ∷ past)) (heard_past (g ∷ past))
is_carried_so g past k = record {
  down_resent = k.down_resent;
  down_built = k.down_built;
  down_answered = k.down_answered;
  up_resent = k.up_resent;
  up_visits = k.up_visits;
}

finish_knows : (maximum : ℕ) (a b : Bool) (c : Checking) (hs : Hearings) → Knows maximum a b c hs
    → (finish c).right ≡ true → Knows maximum a b (finish c) hs
finish_knows maximum a b c hs k e = record {
  some = k.some;
  is_right = e;
  rests = refl;
  down = k.down;
  up = k.up;
  down_lost_is = k.down_lost_is;
  up_lost_is = k.up_lost_is;
}

group_sound : (g : Group) (past : List Group) (c : Checking)
    → (after_group (after_records g.events (after_line g.line c))).right ≡ true
    → GroupSound g past c
group_sound g past c e =
    let told = filter is_of_time g.events in
    let c0 = after_line g.line c in
    let opening = after_tti (after_records (front told) c0) in
    let end : (finish (steps (chunks told) opening)).right ≡ true =
    subst (λ (x : Checking). x.right ≡ true) (group_end g c) e in
    let all = and_parts (steps (chunks told) opening).right (is_met (steps (chunks told) opening).due) end in
    let inner = after_records (front told) c0 in
    let at_front = closed_still inner.running inner (steps_still (chunks told) opening all.0) in
    let at_start = and_parts c.right (has_visits g.line) (after_still (front told) c0 at_front) in
    let none = no_front (front told) c0 (front_inside g.events) refl at_front in
    let begins_so = group_front told g.line c none in
    let end' : (finish (steps (chunks told) c0)).right ≡ true =
    subst (λ (x : Checking). (finish (steps (chunks told) x)).right ≡ true) begins_so end in
    record {
      was_right = at_start.0;
      is = λ s.
          let k = begin_knows g.line g.number (visits past) s.down_lost s.up_lost c (heard_past past) s.knows at_start.1
          in
          let l = line_sound g.line (visits (g ∷ past)) c0 (line_heard g.number g.line (heard_past past))
          (chunks told) k
          refl (chunks_inside g.events) end' in
          let cut : told ≡ joined (chunks told) =
          told_cut told ∙ ap (λ (x : List Record). x ++ joined (chunks told)) none in
          let knows = knows_same (visits (g ∷ past)) (loses Down g.line) (loses Up g.line) (steps (chunks told) c0)
          (heard_more (joined (chunks told)) (line_heard g.number g.line (heard_past past))) (heard_past (g ∷ past))
          l.knows
          (λ d p. ap (λ (x : List Record). heard d p x (line_heard g.number g.line (heard_past past) d p)) (sym cut)
          ∙ group_heard g past d p) in
          let ends_so = group_end g c ∙ ap (λ (x : Checking). finish (steps (chunks told) x)) begins_so in (
            record {
              has_visits = visits_some g.line (visits past) at_start.1 s.knows.some;
              ttis_are = subst (λ (n : ℕ). HasItsTtis n (part_of_line g.line) told) s.next_is
                  (subst (λ (x : List Record). HasItsTtis c.next (part_of_line g.line) x) (sym cut) l.ttis_are);
              first_is = zero_all g.events (subst (λ (x : List Record). AllZero x) (sym cut) l.zero);
              is_carried = carried_is g past
                  (carries_now (visits (g ∷ past)) (loses Down g.line) (loses Up g.line) (steps (chunks told) c0)
                  (heard_past (g ∷ past)) knows);
            },
            record {
              down_lost = loses Down g.line;
              up_lost = loses Up g.line;
              knows = subst
                  (λ (x : Checking).
                  Knows (visits (g ∷ past)) (loses Down g.line) (loses Up g.line) x (heard_past (g ∷ past)))
                  (sym ends_so)
                  (finish_knows (visits (g ∷ past)) (loses Down g.line) (loses Up g.line) (steps (chunks told) c0)
                  (heard_past (g ∷ past)) knows end');
              next_is = ap (λ (x : Checking). x.next) ends_so ∙ l.next_is
                  ∙ ap (λ (n : ℕ). n + length (chunks told)) s.next_is ∙ sym (group_ttis g past);
            },
          );
    }

group_complete : (g : Group) (past : List Group) (c : Checking) → Stands past c → GroupIsRight g past
    → (after_group (after_records g.events (after_line g.line c))).right ≡ true
group_complete g past c s h =
    let told = filter is_of_time g.events in
    let c0 = after_line g.line c in
    let k = begin_knows g.line g.number (visits past) s.down_lost s.up_lost c (heard_past past) s.knows
    (has_some g.line (visits past) h.has_visits) in
    let hs0 = line_heard g.number g.line (heard_past past) in
    let carries = carries_same (visits (g ∷ past)) (heard_past (g ∷ past)) (heard_more told hs0)
    (is_carried_so g past h.is_carried) (λ d p. sym (group_heard g past d p)) in
    let l = line_complete g.line (visits (g ∷ past)) c0 hs0 told k refl
    (subst (λ (n : ℕ). HasItsTtis n (part_of_line g.line) told) (sym s.next_is) h.ttis_are)
    (zero_filter g.events h.first_is) carries in
    subst (λ (x : Checking). x.right ≡ true)
    (sym (group_end g c ∙ ap (λ (x : Checking). finish (steps (chunks told) x)) (group_front told g.line c l.0))) l.1

first_stands : Stands [] nothing_checked
first_stands = record {
  down_lost = false;
  up_lost = false;
  knows = record {
    some = omega arith;
    is_right = refl;
    rests = refl;
    down = fresh_down 4;
    up = fresh_up 4;
    down_lost_is = λ p. refl;
    up_lost_is = λ p. refl;
  };
  next_is = refl;
}

-- ---- the verdict

sound : (past : List Group) → (all_checked past).right ≡ true → AirIsRight past × Stands past (all_checked past)
sound [] e = (tt, first_stands)
sound (g ∷ past) e =
    let s = group_sound g past (all_checked past) e in
    let before = sound past s.was_right in
    let now = s.is before.1 in
    ((now.0, before.0), now.1)

complete : (past : List Group) → AirIsRight past → (all_checked past).right ≡ true
complete [] h = refl
complete (g ∷ past) h =
    group_complete g past (all_checked past) (sound past (complete past h.1)).1 h.0

pub exact : (past : List Group) → IsTrue (all_checked past).right ↔ AirIsRight past
exact past = (λ e. (sound past e).0, λ h. complete past h)
