-- What the groups of a journal tell of the link behind them.
use Rattle.std.proofs.Common.{◌≡◌, ◌<◌, ℕ, ◌+◌, false, List, [], ◌∷◌, ◌++◌, length, replicate, refl, ap, sym, arith}
use Rattle.std.proofs.Common.{subst, ◌∙◌}
use Rattle.std.specs.Prelude.{slice_index}
use Rattle.std.specs.List.{filter}
use Rattle.std.proofs.lemmas.List.{get_or-replicate, length-append, length-map}
use Rattle.std.proofs.lemmas.List.Elements.{filter-append}
use Rattle.air_link.specs.Link.{Link, fresh as fresh_link}
use Rattle.air_record.specs.declared.line.Line.{Line}
use Rattle.air_record.specs.declared.record.Record.{Record}
use Rattle.air_run.specs.Run.{fresh, behind_line}
use Rattle.air_text.specs.Groups.{Group, history}
use Rattle.air_text.specs.Ranges.{IsInRange}
use Rattle.l2_types.specs.declared.side.Side.{Side}
use Rattle.l2_types.specs.declared.side.Side.TheVariants.{Nb, Ue}
use Rattle.law_run.specs.AnyCalls.Counts.{ups, loopeds, gives_up}
use Rattle.promises.specs.Records.{is_up, is_looped, sdu_of, ups_in}
use Rattle.law_run.specs.AnyCalls.Runs.{IsTable}
use Rattle.law_run.proofs.AnyCalls.Running.{table_grows}
use Rattle.promises.specs.Carried.{AreCarried}
use Rattle.promises.specs.Air.{is_tti, ttis, numbered, IsOfItsTime}
use Rattle.promises.specs.Flows.{loops_in, handed_in, submitted, delivered}
use Rattle.law_run.specs.Order.{state_behind, KeepsOrder}
use Rattle.promises.specs.Drained.{has_failed}
use Rattle.promises.specs.Parts.{part_of_line, is_handover}
use Rattle.law_run.proofs.Marks.{AreMarks, failed_by, marks_grow, failed_then}
use Rattle.law_run.proofs.Records.{count_numbered, numbered_then}
use Rattle.law_run.proofs.Lines.{PartAdds, line_adds}
use Rattle.law_run.proofs.Processes.{Both, grows, first as none_yet, is_carried}

abbrev pub link_behind : List Group → Link
link_behind past = (state_behind past).link

pub record Behind (past : List Group) : Type 0 where
  pub nothing : (link_behind past).out ≡ []
  pub nb_delivered : IsTable (λ k. length (delivered Nb k past)) (link_behind past).up.delivered
  pub ue_delivered : IsTable (λ k. length (delivered Ue k past)) (link_behind past).down.delivered
  pub nb_submitted : IsTable (λ k. length (submitted Nb k past)) (link_behind past).down.submitted
  pub ue_submitted : IsTable (λ k. length (submitted Ue k past)) (link_behind past).up.submitted
  pub nb_failed : AreMarks (λ k. has_failed Nb k past) (link_behind past).down.failed
  pub ue_failed : AreMarks (λ k. has_failed Ue k past) (link_behind past).up.failed
  pub ttis_is : ttis past ≡ (link_behind past).ttis
  pub in_turn : filter is_tti (history past) ≡ numbered 0 (ttis past)
  pub processes : Both past (link_behind past)

first : Behind []
unfolding fresh fresh_link
first =
    let none : (k : ℕ) → k < 11 → slice_index (replicate 11 0) k ≡ 0 = λ k lt. get_or-replicate 11 k 0 0 lt in
    record {
      nothing = refl;
      nb_delivered = record { size = refl; each = none };
      ue_delivered = record { size = refl; each = none };
      nb_submitted = record { size = refl; each = none };
      ue_submitted = record { size = refl; each = none };
      nb_failed = record { size = refl; each = λ k lt. get_or-replicate 11 k false false lt };
      ue_failed = record { size = refl; each = λ k lt. get_or-replicate 11 k false false lt };
      ttis_is = refl;
      in_turn = refl;
      processes = none_yet;
    }

-- what a line adds, behind groups
pub adds_behind : (past : List Group) (line : Line) → Behind past
    → PartAdds (part_of_line line) (is_handover line) (link_behind past) (behind_line line (state_behind past))
adds_behind past line b = line_adds line (state_behind past).rules.keys (link_behind past) b.nothing

counted : (side : Side) (k : ℕ) (told : List Record) → length (ups_in side k told) ≡ ups side k told
counted side k told = length-map (filter (is_up side k) told) sdu_of

loops_counted : (k : ℕ) (told : List Record) → length (loops_in k told) ≡ loopeds k told
loops_counted k told = length-map (filter (is_looped k) told) sdu_of

grown : (past : List Group) (g : Group) → IsInRange g.line → Behind past
    → PartAdds (part_of_line g.line) (is_handover g.line) (link_behind past) (behind_line g.line (state_behind past))
    → g.events ≡ (behind_line g.line (state_behind past)).out
    → Behind (g ∷ past)
grown past g fits b a e =
    let l = link_behind past in
    let m = behind_line g.line (state_behind past) in
    let told : filter is_tti (history (g ∷ past)) ≡ filter is_tti (history past) ++ filter is_tti m.out =
    filter-append is_tti (history past) _
    ∙ ap (λ (x : List Record). filter is_tti (history past) ++ filter is_tti x) e in
    let each = count_numbered l.ttis a.count in
    let count : ttis (g ∷ past) ≡ ttis past + a.count =
    ap (λ (x : List Record). length x) (told ∙ ap (λ (x : List Record). filter is_tti (history past) ++ x) a.numbers)
    ∙ length-append (filter is_tti (history past)) (numbered l.ttis a.count) ∙ ap (λ (n : ℕ). ttis past + n) each in
    record {
      nothing = refl;
      nb_delivered =
          table_grows (λ k. length (delivered Nb k past)) (λ k. ups Nb k m.out)
          (λ k. length (delivered Nb k (g ∷ past))) l.up.delivered m.up.delivered
          (λ k. length-append (delivered Nb k past) (ups_in Nb k g.events)
          ∙ ap (λ (x : List Record). length (delivered Nb k past) + length (ups_in Nb k x)) e
          ∙ ap (λ (n : ℕ). length (delivered Nb k past) + n) (counted Nb k m.out))
          b.nb_delivered a.nb_delivered;
      ue_delivered =
          table_grows (λ k. length (delivered Ue k past)) (λ k. ups Ue k m.out)
          (λ k. length (delivered Ue k (g ∷ past))) l.down.delivered m.down.delivered
          (λ k. length-append (delivered Ue k past) (ups_in Ue k g.events)
          ∙ ap (λ (x : List Record). length (delivered Ue k past) + length (ups_in Ue k x)) e
          ∙ ap (λ (n : ℕ). length (delivered Ue k past) + n) (counted Ue k m.out))
          b.ue_delivered a.ue_delivered;
      nb_submitted =
          table_grows (λ k. length (submitted Nb k past)) (λ k. length (handed_in Nb k (part_of_line g.line) m.out))
          (λ k. length (submitted Nb k (g ∷ past))) l.down.submitted m.down.submitted
          (λ k.
          let handed = handed_in Nb k (part_of_line g.line) g.events in
          let all = length-append (submitted Nb k past) (handed ++ []) in
          let here = length-append handed [] in
          let same : length handed ≡ length (handed_in Nb k (part_of_line g.line) m.out) =
          ap (λ (x : List Record). length (handed_in Nb k (part_of_line g.line) x)) e in
          omega (arith, all, here, same))
          b.nb_submitted a.nb_submitted;
      ue_submitted =
          table_grows (λ k. length (submitted Ue k past))
          (λ k. length (handed_in Ue k (part_of_line g.line) m.out) + loopeds k m.out)
          (λ k. length (submitted Ue k (g ∷ past))) l.up.submitted m.up.submitted
          (λ k.
          let handed = handed_in Ue k (part_of_line g.line) g.events in
          let looped = loops_in k g.events in
          let all = length-append (submitted Ue k past) (handed ++ looped) in
          let here = length-append handed looped in
          let same : length handed ≡ length (handed_in Ue k (part_of_line g.line) m.out) =
          ap (λ (x : List Record). length (handed_in Ue k (part_of_line g.line) x)) e in
          let loops : length looped ≡ loopeds k m.out = ap (λ (x : List Record). length (loops_in k x)) e
          ∙ loops_counted k m.out in
          omega (arith, all, here, same, loops))
          b.ue_submitted a.ue_submitted;
      nb_failed =
          marks_grow (λ k. has_failed Nb k past) (λ k. gives_up Nb k m.out) (λ k. has_failed Nb k (g ∷ past))
          (is_handover g.line) l.down.failed m.down.failed
          (λ k. failed_then Nb k past g ∙ ap (λ (x : List Record). failed_by (is_handover g.line) (has_failed Nb k past)
          (gives_up Nb k x)) e)
          b.nb_failed a.nb_failed;
      ue_failed =
          marks_grow (λ k. has_failed Ue k past) (λ k. gives_up Ue k m.out) (λ k. has_failed Ue k (g ∷ past))
          (is_handover g.line) l.up.failed m.up.failed
          (λ k. failed_then Ue k past g ∙ ap (λ (x : List Record). failed_by (is_handover g.line) (has_failed Ue k past)
          (gives_up Ue k x)) e)
          b.ue_failed a.ue_failed;
      ttis_is = let was = b.ttis_is in let now = a.ttis_is in omega (arith, count, was, now);
      in_turn =
          told ∙ ap (λ (x : List Record). x ++ filter is_tti m.out) b.in_turn
          ∙ ap (λ (x : List Record). numbered 0 (ttis past) ++ x)
          (a.numbers ∙ ap (λ (t : ℕ). numbered t a.count) (sym b.ttis_is ∙ sym (zero_first (ttis past))))
          ∙ sym (numbered_then 0 (ttis past) a.count) ∙ ap (λ (n : ℕ). numbered 0 n) (sym count);
      processes = shown_too (grows g past (state_behind past).rules.keys l b.nothing e fits b.processes);
    }
  where
    zero_first : (n : ℕ) → 0 + n ≡ n
    zero_first n = omega arith

    shown_too : Both (g ∷ past) (behind_line g.line (state_behind past)) → Both (g ∷ past) (link_behind (g ∷ past))
    shown_too both = record { some = both.some; down = both.down; up = both.up }

pub behind : (past : List Group) → KeepsOrder past → Behind past
behind [] order = first
behind (g ∷ past) (right, order) = let b = behind past order in
    grown past g right.in_range b (adds_behind past g.line b) right.events_are

pub are_carried : (past : List Group) → KeepsOrder past → AreCarried past
are_carried [] order = tt
are_carried (g ∷ past) (right, order) = (
  is_carried (g ∷ past) (link_behind (g ∷ past)) (behind (g ∷ past) (right, order)).processes,
  are_carried past order,
)

-- the records of a line stand where its TTIs do
pub of_their_time : (past : List Group) (line : Line) → Behind past
    → IsOfItsTime (ttis past) (part_of_line line) (behind_line line (state_behind past)).out
of_their_time past line b =
    subst (λ (t : ℕ). IsOfItsTime t (part_of_line line) (behind_line line (state_behind past)).out) (sym b.ttis_is)
    (adds_behind past line b).of_its_time
