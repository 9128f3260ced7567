-- As long as all lines configured, nothing is under way, nothing was submitted, and nothing is told of the ends.
use Rattle.std.proofs.Common.{◌≡◌, ℕ, false, List, [], ◌∷◌, ◌++◌, refl, ap, ◌∙◌}
use Rattle.air_link.specs.Link.{Link, fresh as fresh_link}
use Rattle.air_record.specs.declared.line.Line.{Line}
use Rattle.air_record.specs.declared.line.Line.TheVariants as lines
use Rattle.air_record.specs.declared.record.Record.{Record}
use Rattle.air_record.specs.declared.record.Record.TheVariants as records
use Rattle.air_run.specs.Draining.{shown}
use Rattle.air_run.specs.Playing.{keys_or_none, acted, played}
use Rattle.air_run.specs.Rules.{Rules, accepted}
use Rattle.air_run.specs.Run.{fresh, behind_line}
use Rattle.air_text.specs.Groups.{Group, history}
use Rattle.air_text.specs.Ranges.{IsInRange}
use Rattle.l2_types.specs.declared.side.Side.{Side}
use Rattle.law_run.specs.AnyCalls.Calls as calls
use Rattle.promises.specs.Records.{events_of}
use Rattle.law_run.proofs.AnyCalls.Going.{told_both}
use Rattle.promises.specs.Arrival.{entries_in, entries_ended, entries_from}
use Rattle.law_words.specs.Arrivals.{AccountEntry}
use Rattle.law_run.specs.TwoEnds.Lives.{IsAtRest}
use Rattle.law_run.proofs.TwoEnds.Along.{nothing_looped}
use Rattle.law_run.proofs.TwoEnds.Lives.{first_rests, calls_rest}
use Rattle.promises.specs.Flows.{handed_in, looped_at, submitted}
use Rattle.law_run.specs.Order.{state_behind, KeepsOrder}
use Rattle.promises.specs.Parts.{Rests, part_of_line}
use Rattle.law_run.proofs.Past.{link_behind}

-- ---- a line that configures

pub record StillRests (line : Line) (k m : Link) : Type 0 where
  pub rest : IsAtRest m
  pub silent : m.out ≡ k.out
  pub part_is : part_of_line line ≡ Rests
  pub lives_on : entries_ended line ≡ []

pub configures : (line : Line) (r : Rules) (k : Link) → IsInRange line → (accepted line r).begun ≡ false → IsAtRest k
    → StillRests line k (played line r.keys k)
unfolding acted accepted Rattle.air_link.specs.Lines.visits Rattle.air_link.specs.Lines.reports
    Rattle.air_link.specs.Lines.bears Rattle.air_link.specs.Lines.discards Rattle.air_link.specs.Lines.listens
configures (lines.Harq maximum) r k fits early h =
    record {
      rest = calls_rest (calls.Visits maximum) k fits.some fits.few h;
      silent = refl;
      part_is = refl;
      lives_on = refl;
    }
configures lines.Bsr r k fits early h =
    record { rest = calls_rest calls.Reports k tt tt h; silent = refl; part_is = refl; lives_on = refl }
configures (lines.Keys keys) r k fits early h = record { rest = h; silent = refl; part_is = refl; lives_on = refl }
configures (lines.Bearer config options) r k fits early h =
    record {
      rest = calls_rest (calls.Bears config (keys_or_none r.keys)) k fits tt h;
      silent = refl;
      part_is = refl;
      lives_on = refl;
    }
configures (lines.Discard lcid ttis) r k fits early h =
    record { rest = calls_rest (calls.Discards lcid ttis) k tt tt h; silent = refl; part_is = refl; lives_on = refl }
configures (lines.Drx config) r k fits early h =
    record { rest = calls_rest (calls.Listens config) k tt tt h; silent = refl; part_is = refl; lives_on = refl }
configures line r k fits early h = absurd cc

-- what began once has begun for all lines that follow
pub unbegun : (line : Line) (r : Rules) → (accepted line r).begun ≡ false → r.begun ≡ false
unfolding accepted
unbegun (lines.Harq maximum) r e = e
unbegun lines.Bsr r e = e
unbegun (lines.Keys keys) r e = e
unbegun (lines.Bearer config options) r e = e
unbegun (lines.Discard lcid ttis) r e = e
unbegun (lines.Drx config) r e = e
unbegun line r e = absurd cc

-- ---- behind groups

pub record IsEarly (past : List Group) : Type 0 where
  pub rest : IsAtRest (link_behind past)
  pub silent : (link_behind past).out ≡ []
  pub none_told : (side : Side) → events_of side (history past) ≡ []
  pub none_submitted : (side : Side) (lcid : ℕ) → submitted side lcid past ≡ []
  pub none_happened : (bits lcid : ℕ) (from : Side) → entries_from bits lcid from past ≡ []

-- the records are written
shown_rests : (k : Link) → IsAtRest k → IsAtRest (shown k)
shown_rests k h = record { nb_is = refl; ue_is = refl; nb = h.nb; ue = h.ue; nb_idle = refl; ue_idle = refl }

still_early : (past : List Group) (g : Group) → IsEarly past
    → StillRests g.line (link_behind past) (behind_line g.line (state_behind past))
    → g.events ≡ (behind_line g.line (state_behind past)).out → IsEarly (g ∷ past)
still_early past g h s e =
    let none : g.events ≡ [] = e ∙ s.silent ∙ h.silent in
    record {
      rest = shown_rests (behind_line g.line (state_behind past)) s.rest;
      silent = refl;
      none_told = λ side. told_both side (history past) (records.Line g.number g.line ∷ g.events) [] []
          (h.none_told side) (ap (events_of side) none);
      none_submitted = λ side lcid.
          ap (λ (xs : List (List ℕ)). xs
          ++ (handed_in side lcid (part_of_line g.line) g.events ++ looped_at side lcid g.events))
          (h.none_submitted side lcid)
          ∙ ap (λ p. handed_in side lcid p g.events ++ looped_at side lcid g.events) s.part_is
          ∙ ap (λ (x : List Record). looped_at side lcid x) none ∙ nothing_looped side lcid;
      none_happened = λ bits lcid from.
          ap (λ (hs : List AccountEntry). hs ++ (entries_ended g.line ++ entries_in bits lcid from [] g.events))
          (h.none_happened bits lcid from)
          ∙ ap (λ (hs : List AccountEntry). hs ++ entries_in bits lcid from [] g.events) s.lives_on
          ∙ ap (λ (x : List Record). entries_in bits lcid from [] x) none;
    }

pub is_early : (past : List Group) → KeepsOrder past → (state_behind past).rules.begun ≡ false → IsEarly past
unfolding fresh fresh_link
is_early [] order early = record {
  rest = first_rests;
  silent = refl;
  none_told = λ side. refl;
  none_submitted = λ side lcid. refl;
  none_happened = λ bits lcid from. refl;
}
is_early (g ∷ past) (right, order) early =
    let k = link_behind past in
    let h = is_early past order (unbegun g.line (state_behind past).rules early) in
    still_early past g h (configures g.line (state_behind past).rules k right.in_range early h.rest) right.events_are
