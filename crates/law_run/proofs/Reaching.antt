-- Both ends come by calls of their own through every line, with what is told of them, so that their new blocks have
-- that too.
use Rattle.std.proofs.Common.{◌≡◌, ◌≤◌, ℕ, zero, suc, ◌+◌, Bool, true, false, List, [], ◌∷◌, ◌++◌, length, append-nil}
use Rattle.std.proofs.Common.{append_assoc, refl, ap, sym, arith, subst, ◌∙◌}
use Rattle.std.specs.Prelude.{Option}
use Rattle.std.specs.List.{filter}
use Rattle.std.proofs.lemmas.List.Elements.{filter-append}
use Rattle.air_link.specs.Downlink.{down_order}
use Rattle.air_link.specs.Draining.{drain_tti, carried, receivers_expire, is_drained}
use Rattle.air_link.specs.Link.{Link, fresh as fresh_link}
use Rattle.air_record.specs.declared.line.Line.{Line}
use Rattle.air_record.specs.declared.line.Line.TheVariants as lines
use Rattle.air_record.specs.declared.line.Outcome.{Outcome}
use Rattle.air_record.specs.declared.record.Record.{Record}
use Rattle.air_record.specs.declared.record.Record.TheVariants as records
use Rattle.air_run.specs.Draining.{shown, Drained, at_once, behind, ttis, senders_unless, round, left_by, done_by}
use Rattle.air_run.specs.Draining.{round_told, rounds, budget, drained}
use Rattle.air_run.specs.Playing.{keys_or_none, acted, played}
use Rattle.air_record.specs.Cells.{next_keys}
use Rattle.air_run.specs.Run.{fresh, behind_line}
use Rattle.air_text.specs.Groups.{Group, history}
use Rattle.air_text.specs.Ranges.{IsInRange}
use Rattle.eps_sec.specs.declared.Keys.{Keys}
use Rattle.l2_node.specs.End.{fresh as fresh_end}
use Rattle.l2_types.specs.declared.side.Side.{Side}
use Rattle.l2_types.specs.declared.side.Side.TheVariants.{Nb, Ue}
use Rattle.law_run.specs.AnyCalls.Calls as calls
use Rattle.law_run.specs.AnyCalls.Ends.{LivesOn, GoesThrough, GoesOn, GoesOnByVisits, visit_told, known, lives_in}
use Rattle.promises.specs.Records.{events_of, is_of_building}
use Rattle.law_run.proofs.AnyCalls.Advancing.{call_goes_on, submitting_goes, tti_goes, drain_goes}
use Rattle.law_run.proofs.AnyCalls.Going.{by_none, by_same, lives_then, goes_by, unseen_rests}
use Rattle.law_node.specs.Calls.{Call as EndCall}
use Rattle.law_run.proofs.AnyCalls.Visiting.{enough_by_grant}
use Rattle.pdu_show.specs.declared.kinds.Layout.{Layout}
use Rattle.test_loop.specs.declared.Mode.TheVariants.{Off, A, B}
use Rattle.promises.specs.Air.{is_tti, ttis as ttis_behind, InTurn}
use Rattle.promises.specs.Blocks.{kinds_by, kinds, MayBuildBoth, AreTold}
use Rattle.law_run.specs.Ends.{ComeByCalls}
use Rattle.law_run.specs.Order.{state_behind, KeepsOrder}
use Rattle.promises.specs.Parts.{Part, Passes, Drains, Rests, part_of_line}
use Rattle.law_run.proofs.Knowing.{kinds_over, IsCome, come_then, come_shows}
use Rattle.law_run.proofs.Past.{behind as all_behind, link_behind}
use Rattle.law_run.proofs.Records.{count_numbered}
use Rattle.law_run.proofs.AnyCalls.Passing.{drain_adds}
use Rattle.law_run.proofs.Lines.{drains_add}
use Rattle.law_run.proofs.Ttis.{round_adds, in_turn_then, drained_adds}

-- both ends as they come from the beginning on, and what is told of them; PDUs are shown by the bearers of both
pub record IsReached (told : List Record) (l : Link) : Type 0 where
  pub nb : IsCome Nb told l.kinds l.nb
  pub ue : IsCome Ue told l.kinds l.ue

reached_then : (lives : List EndCall) (told more : List Record) (l m : Link) → IsReached told l
    → LivesOn lives Nb more l.nb m.nb → LivesOn lives Ue more l.ue m.ue → m.kinds ≡ kinds_over lives l.kinds
    → IsReached (told ++ more) m
reached_then lives told more l m r nb ue e = record {
  nb = subst (λ (ks : List (Option Layout)). IsCome Nb (told ++ more) ks m.nb) (sym e)
      (come_then lives Nb told more l.kinds l.nb m.nb r.nb nb);
  ue = subst (λ (ks : List (Option Layout)). IsCome Ue (told ++ more) ks m.ue) (sym e)
      (come_then lives Ue told more l.kinds l.ue m.ue r.ue ue);
}

-- ---- a TTI

both_may_build : (told : List Record) (t up_grant down_grant : ℕ) (l m : Link) → IsReached told l → up_grant ≤ 9422
    → down_grant ≤ 9422 → (g : GoesOnByVisits t up_grant down_grant l m)
    → MayBuildBoth t up_grant down_grant l.kinds (filter is_of_building g.goes.more)
both_may_build told t up_grant down_grant l m r up_within down_within g =
    let nb = come_then [] Nb told g.nb_told l.kinds l.nb g.nb r.nb g.nb_by in
    let ue = come_then [] Ue told g.ue_told l.kinds l.ue g.ue r.ue g.ue_by in
    record {
      downward = visit_told Nb t down_grant (down_order down_grant) l.kinds g.nb;
      upward = visit_told Ue t up_grant g.up_order l.kinds g.ue;
      told_is = g.goes.blocks_are;
      down = come_shows Nb (told ++ g.nb_told) l.kinds g.nb nb t down_grant (down_order down_grant) down_within
          (enough_by_grant down_grant);
      up = come_shows Ue (told ++ g.ue_told) l.kinds g.ue ue t up_grant g.up_order up_within g.enough;
    }

-- ---- what a line leaves

pub record LineGoes (lives : List EndCall) (p : Part) (kinds' : List (Option Layout)) (l m : Link) : Type 0 where
  pub nb : LivesOn lives Nb m.out l.nb m.nb
  pub ue : LivesOn lives Ue m.out l.ue m.ue
  pub blocks : AreTold l.ttis l.kinds p m.out
  pub kinds_are : m.kinds ≡ kinds'

abbrev more_only : (l m : Link) (more : List Record) → l.out ≡ [] → m.out ≡ l.out ++ more → m.out ≡ more
more_only l m more nothing out = out ∙ ap (λ (x : List Record). x ++ more) nothing

-- where nothing was told before
nb_on : (lives : List EndCall) (blocks : List Record) (l m : Link) → l.out ≡ [] → GoesThrough lives blocks l m
    → LivesOn lives Nb m.out l.nb m.nb
nb_on lives blocks l m nothing g =
    subst (λ (x : List Record). LivesOn lives Nb x l.nb m.nb) (sym (more_only l m g.more nothing g.out_is)) g.nb

ue_on : (lives : List EndCall) (blocks : List Record) (l m : Link) → l.out ≡ [] → GoesThrough lives blocks l m
    → LivesOn lives Ue m.out l.ue m.ue
ue_on lives blocks l m nothing g =
    subst (λ (x : List Record). LivesOn lives Ue x l.ue m.ue) (sym (more_only l m g.more nothing g.out_is)) g.ue

reached_on : (told blocks : List Record) (l m : Link) → l.out ≡ [] → IsReached told l → GoesOn blocks l m
    → IsReached (told ++ m.out) m
reached_on told blocks l m nothing r g =
    reached_then [] told m.out l m r (nb_on [] blocks l m nothing g) (ue_on [] blocks l m nothing g) g.kinds_are

rests_goes : (lives : List EndCall) (l m : Link) → l.out ≡ [] → GoesThrough lives [] l m
    → LineGoes lives Rests l.kinds l m
rests_goes lives l m nothing g = record {
  nb = nb_on lives [] l m nothing g;
  ue = ue_on lives [] l m nothing g;
  blocks = ap (λ (x : List Record). filter is_of_building x) (more_only l m g.more nothing g.out_is) ∙ g.blocks_are;
  kinds_are = g.kinds_are;
}

passes_goes : (told : List Record) (up_grant down_grant : ℕ) (up down : Outcome) (l m : Link) → l.out ≡ []
    → IsReached told l → up_grant ≤ 9422 → down_grant ≤ 9422 → GoesOnByVisits l.ttis up_grant down_grant l m
    → LineGoes [] (Passes up_grant up down_grant down) l.kinds l m
passes_goes told up_grant down_grant up down l m nothing r up_within down_within g = record {
  nb = nb_on [] _ l m nothing g.goes;
  ue = ue_on [] _ l m nothing g.goes;
  blocks = subst (λ (x : List Record). MayBuildBoth l.ttis up_grant down_grant l.kinds (filter is_of_building x))
      (sym (more_only l m g.goes.more nothing g.goes.out_is))
      (both_may_build told l.ttis up_grant down_grant l m r up_within down_within g);
  kinds_are = g.goes.kinds_are;
}

-- ---- a drain

-- the blocks of so many of its TTIs
abbrev AllMayBuild : ℕ → List (Option Layout) → ℕ → ℕ → List Record → Type 0
AllMayBuild grant kinds' t n told = InTurn (λ k. MayBuildBoth k grant grant kinds') t n told

record DrainGoes (count grant : ℕ) (l : Link) (d : Drained) : Type 0 where
  nb : LivesOn [] Nb d.journal l.nb d.link.nb
  ue : LivesOn [] Ue d.journal l.ue d.link.ue
  nothing : d.link.out ≡ []
  ttis_is : d.link.ttis ≡ l.ttis + count
  blocks : AllMayBuild grant l.kinds l.ttis count (filter is_of_building d.journal)
  kinds_are : d.link.kinds ≡ l.kinds

none_goes : (grant : ℕ) (l : Link) → l.out ≡ [] → DrainGoes 0 grant l (at_once l)
none_goes grant l nothing = record {
  nb = by_none Nb l.nb;
  ue = by_none Ue l.ue;
  nothing = nothing;
  ttis_is = omega arith;
  blocks = refl;
  kinds_are = refl;
}

first_goes : (told : List Record) (n done grant : ℕ) (l m : Link) (d : Drained) → l.out ≡ [] → IsReached told l
    → grant ≤ 9422 → GoesOnByVisits l.ttis grant grant l m → m.ttis ≡ l.ttis + 1 → DrainGoes n grant (shown m) d
    → DrainGoes (suc n) grant l (behind m.out done d)
first_goes told n done grant l m d nothing r within g next q = record {
  nb = lives_then [] [] Nb m.out d.journal l.nb m.nb d.link.nb (nb_on [] _ l m nothing g.goes) q.nb;
  ue = lives_then [] [] Ue m.out d.journal l.ue m.ue d.link.ue (ue_on [] _ l m nothing g.goes) q.ue;
  nothing = q.nothing;
  ttis_is = omega (arith, q.ttis_is, next);
  blocks = record {
    first = filter is_of_building g.goes.more;
    second = filter is_of_building d.journal;
    told_are = filter-append is_of_building m.out d.journal
        ∙ ap (λ (x : List Record). filter is_of_building x ++ filter is_of_building d.journal)
        (more_only l m g.goes.more nothing g.goes.out_is);
    is_first = both_may_build told l.ttis grant grant l m r within within g;
    is_second = subst (λ (t : ℕ). AllMayBuild grant l.kinds t n (filter is_of_building d.journal)) next
        (subst (λ (x : List (Option Layout)). AllMayBuild grant x m.ttis n (filter is_of_building d.journal))
        g.goes.kinds_are q.blocks);
  };
  kinds_are = q.kinds_are ∙ g.goes.kinds_are;
}

-- a TTI, and the timers that expire behind it
then_goes : (t grant : ℕ) (l m n : Link) → GoesOnByVisits t grant grant l m → GoesOn [] m n
    → GoesOnByVisits t grant grant l n
then_goes t grant l m n g q = record {
  nb = g.nb;
  nb_told = g.nb_told;
  nb_by = g.nb_by;
  ue = g.ue;
  ue_told = g.ue_told;
  ue_by = g.ue_by;
  up_order = g.up_order;
  enough = g.enough;
  goes =
      goes_by (visit_told Nb t grant (down_order grant) l.kinds g.nb ++ visit_told Ue t grant g.up_order l.kinds g.ue)
      l m n g.goes q;
}

senders_go : (b : Bool) (l : Link) → GoesOn [] l (senders_unless b l)
senders_go true l = (unseen_rests l l refl).goes
senders_go false l = call_goes_on calls.SendersExpire l tt

pub round_goes : (grant : ℕ) (l : Link) → grant ≤ 9422 → GoesOnByVisits l.ttis grant grant l (round grant l)
round_goes grant l within =
    let m = drain_tti grant l in
    let n = receivers_expire m in
    then_goes l.ttis grant l n (senders_unless (carried m) n)
    (then_goes l.ttis grant l m n (drain_goes grant l within) (call_goes_on calls.ReceiversExpire m tt))
    (senders_go (carried m) n)

-- the records are written
shown_reached : (told : List Record) (l : Link) → IsReached told l → IsReached told (shown l)
shown_reached told l r = record { nb = r.nb; ue = r.ue }

ttis_go : (told : List Record) (n grant : ℕ) (l : Link) → l.out ≡ [] → IsReached told l → grant ≤ 9422
    → DrainGoes n grant l (ttis n grant l)
ttis_go told zero grant l nothing r within = none_goes grant l nothing
ttis_go told (suc n) grant l nothing r within =
    let m = drain_tti grant l in
    let g = drain_goes grant l within in
    let all = told ++ m.out in
    first_goes told n 0 grant l m (ttis n grant (shown m)) nothing r within g (drain_adds grant l).ttis_is
    (ttis_go all n grant (shown m) refl (shown_reached all m (reached_on told _ l m nothing r g.goes)) within)

round_by : (told : List Record) (n grant : ℕ) (l : Link) → l.out ≡ [] → IsReached told l → grant ≤ 9422 → (b : Bool)
    → ((said : List Record) (m : Link) → m.out ≡ [] → IsReached said m
    → DrainGoes (rounds n grant m).done grant m (rounds n grant m))
    → DrainGoes (done_by b + (rounds n grant (left_by b grant l)).done) grant l
    (behind (round_told b grant l) (done_by b) (rounds n grant (left_by b grant l)))
round_by told n grant l nothing r within true rest =
    let q = rest told l nothing r in
    let same : 0 + (rounds n grant l).done ≡ (rounds n grant l).done = omega arith in
    subst (λ (k : ℕ). DrainGoes k grant l (behind [] 0 (rounds n grant l))) (sym same)
    (record {
      nb = q.nb;
      ue = q.ue;
      nothing = q.nothing;
      ttis_is = q.ttis_is;
      blocks = q.blocks;
      kinds_are = q.kinds_are;
    })
round_by told n grant l nothing r within false rest =
    let m = round grant l in
    let d = rounds n grant (shown m) in
    let g = round_goes grant l within in
    let all = told ++ m.out in
    let more : 1 + d.done ≡ suc d.done = omega arith in
    subst (λ (k : ℕ). DrainGoes k grant l (behind m.out 1 d)) (sym more)
    (first_goes told d.done 1 grant l m d nothing r within g (round_adds grant l).ttis_is
    (rest all (shown m) refl (shown_reached all m (reached_on told _ l m nothing r g.goes))))

rounds_go : (told : List Record) (n grant : ℕ) (l : Link) → l.out ≡ [] → IsReached told l → grant ≤ 9422
    → DrainGoes (rounds n grant l).done grant l (rounds n grant l)
rounds_go told zero grant l nothing r within = none_goes grant l nothing
rounds_go told (suc n) grant l nothing r within =
    round_by told n grant l nothing r within (is_drained l) (λ said m e h. rounds_go said n grant m e h within)

both_go : (a b done grant : ℕ) (l : Link) (d e : Drained) → DrainGoes a grant l d → DrainGoes b grant d.link e
    → DrainGoes (a + b) grant l (behind d.journal done e)
both_go a b done grant l d e p q = record {
  nb = lives_then [] [] Nb d.journal e.journal l.nb d.link.nb e.link.nb p.nb q.nb;
  ue = lives_then [] [] Ue d.journal e.journal l.ue d.link.ue e.link.ue p.ue q.ue;
  nothing = q.nothing;
  ttis_is = omega (arith, q.ttis_is, p.ttis_is);
  blocks = subst (λ (x : List Record). AllMayBuild grant l.kinds l.ttis (a + b) x)
      (sym (filter-append is_of_building d.journal e.journal))
      (in_turn_then (λ k. MayBuildBoth k grant grant l.kinds) l.ttis a b (filter is_of_building d.journal)
      (filter is_of_building e.journal) p.blocks
      (subst (λ (t : ℕ). AllMayBuild grant l.kinds t b (filter is_of_building e.journal)) p.ttis_is
      (subst (λ (x : List (Option Layout)). AllMayBuild grant x d.link.ttis b (filter is_of_building e.journal))
      p.kinds_are q.blocks)));
  kinds_are = q.kinds_are ∙ p.kinds_are;
}

none_built : (done : ℕ) → filter is_of_building (records.Drained done ∷ []) ≡ []
none_built done = refl

untold_end : (side : Side) (done : ℕ) → events_of side (records.Drained done ∷ []) ≡ []
untold_end side done = refl

-- the count of TTIs is that of their records
drained_goes : (told : List Record) (grant : ℕ) (l : Link) → l.out ≡ [] → IsReached told l → grant ≤ 9422
    → (count : ℕ) → (drained grant l).link.ttis ≡ l.ttis + count
    → length (filter is_tti (drained grant l).journal) ≡ count
    → LineGoes [] (Drains grant) l.kinds l (record (drained grant l).link { out = (drained grant l).journal })
unfolding drained
drained_goes told grant l nothing r within count ttis_is count_is =
    let d = ttis 8 grant l in
    let e = rounds (budget l) grant d.link in
    let p = ttis_go told 8 grant l nothing r within in
    let whole = behind d.journal 0 e in
    let q =
    both_go 8 e.done 0 grant l d e p
    (rounds_go (told ++ d.journal) (budget l) grant d.link p.nothing
    (reached_then [] told d.journal l d.link r p.nb p.ue p.kinds_are) within) in
    let last = records.Drained whole.done ∷ [] in
    let same : 8 + e.done ≡ count = omega (arith, ttis_is, q.ttis_is) in
    let blocks : filter is_of_building (whole.journal ++ last) ≡ filter is_of_building whole.journal =
    filter-append is_of_building whole.journal last
    ∙ ap (λ (x : List Record). filter is_of_building whole.journal ++ x) (none_built whole.done)
    ∙ append-nil (filter is_of_building whole.journal) in
    record {
      nb = lives_then [] [] Nb whole.journal last l.nb whole.link.nb whole.link.nb q.nb
          (by_same Nb last whole.link.nb whole.link.nb refl (untold_end Nb whole.done));
      ue = lives_then [] [] Ue whole.journal last l.ue whole.link.ue whole.link.ue q.ue
          (by_same Ue last whole.link.ue whole.link.ue refl (untold_end Ue whole.done));
      blocks = subst (λ (n : ℕ). AllMayBuild grant l.kinds l.ttis n (filter is_of_building (whole.journal ++ last)))
          (same ∙ sym count_is)
          (subst (λ (x : List Record). AllMayBuild grant l.kinds l.ttis (8 + e.done) x) (sym blocks) q.blocks);
      kinds_are = q.kinds_are;
    }

-- ---- every line

drain_line : (told : List Record) (grant : ℕ) (l : Link) → l.out ≡ [] → IsReached told l → grant ≤ 9422
    → LineGoes [] (Drains grant) l.kinds l (record (drained grant l).link { out = (drained grant l).journal })
drain_line told grant l nothing r within =
    let a = drains_add grant l (drained grant l) (drained_adds grant l nothing) in
    drained_goes told grant l nothing r within a.count a.ttis_is
    (ap (λ (x : List Record). length x) a.numbers ∙ count_numbered l.ttis a.count)

-- the lives that begin in both ends
abbrev pub lives_by : Line → Option Keys → List EndCall
lives_by (lines.Bearer config options) keys = lives_in (calls.Bears config (keys_or_none keys))
lives_by (lines.Handover user rrc integrity) keys =
    lives_in (calls.HandsOver (next_keys user rrc integrity (keys_or_none keys)))
lives_by line keys = []

line_goes : (told : List Record) (line : Line) (keys : Option Keys) (l : Link) → l.out ≡ [] → IsReached told l
    → IsInRange line → LineGoes (lives_by line keys) (part_of_line line) (kinds_by line l.kinds) l (played line keys l)
unfolding acted
line_goes told (lines.Harq maximum) keys l nothing r fits =
    rests_goes [] l _ nothing (call_goes_on (calls.Visits maximum) l fits.some)
line_goes told lines.Bsr keys l nothing r fits = rests_goes [] l _ nothing (call_goes_on calls.Reports l tt)
line_goes told (lines.Keys ks) keys l nothing r fits = rests_goes [] l _ nothing (unseen_rests l l refl).goes
line_goes told (lines.Bearer config options) keys l nothing r fits =
    let c = calls.Bears config (keys_or_none keys) in
    let g = rests_goes (lives_in c) (known c l) _ nothing (call_goes_on c l fits) in
    record { nb = g.nb; ue = g.ue; blocks = g.blocks; kinds_are = g.kinds_are }
line_goes told (lines.Submit side lcid octets) keys l nothing r fits =
    let g = rests_goes [] l _ nothing (submitting_goes side lcid octets l) in
    record { nb = g.nb; ue = g.ue; blocks = g.blocks; kinds_are = g.kinds_are }
line_goes told (lines.Tti up_grant up down_grant down) keys l nothing r fits =
    passes_goes told up_grant down_grant up down l _ nothing r fits.up fits.down
    (tti_goes up_grant up down_grant down l fits.up fits.down)
line_goes told (lines.Expire side lcid clock) keys l nothing r fits =
    rests_goes [] l _ nothing (call_goes_on (calls.Expires side lcid clock) l tt)
line_goes told (lines.Handover user rrc integrity) keys l nothing r fits = let c =
    calls.HandsOver (next_keys user rrc integrity (keys_or_none keys)) in
    rests_goes (lives_in c) l _ nothing (call_goes_on c l tt)
line_goes told lines.LoopOff keys l nothing r fits = rests_goes [] l _ nothing (call_goes_on (calls.Loops Off) l tt)
line_goes told (lines.LoopA size) keys l nothing r fits =
    rests_goes [] l _ nothing (call_goes_on (calls.Loops (A size)) l tt)
line_goes told (lines.LoopB delay) keys l nothing r fits =
    rests_goes [] l _ nothing (call_goes_on (calls.Loops (B delay)) l tt)
line_goes told (lines.Drain grant) keys l nothing r fits = drain_line told grant l nothing r fits
line_goes told (lines.Forge side octets) keys l nothing r fits =
    rests_goes [] l _ nothing (call_goes_on (calls.Forges side octets) l tt)
line_goes told (lines.Discard lcid count) keys l nothing r fits =
    rests_goes [] l _ nothing (call_goes_on (calls.Discards lcid count) l tt)
line_goes told (lines.Drx config) keys l nothing r fits =
    rests_goes [] l _ nothing (call_goes_on (calls.Listens config) l tt)
line_goes told lines.End keys l nothing r fits = rests_goes [] l _ nothing (unseen_rests l l refl).goes

-- ---- behind groups

first_reached : IsReached [] fresh_link
unfolding fresh_link
first_reached = record {
  nb = record { lives = []; on = by_none Nb (fresh_end Nb 4 false); kinds_are = refl };
  ue = record { lives = []; on = by_none Ue (fresh_end Ue 4 false); kinds_are = refl };
}

-- the record of a line tells of no end
begun_reached : (told : List Record) (number : ℕ) (line : Line) (l : Link) → IsReached told l
    → IsReached (told ++ records.Line number line ∷ []) l
begun_reached told number line l r =
    let one = records.Line number line ∷ [] in
    reached_then [] told one l l r (by_same Nb one l.nb l.nb refl refl) (by_same Ue one l.ue l.ue refl refl) refl

-- how PDUs are shown behind a line, by the lives that begin in it
lives_shown : (line : Line) (keys : Option Keys) (ks : List (Option Layout))
    → kinds_by line ks ≡ kinds_over (lives_by line keys) ks
lives_shown (lines.Harq maximum) keys ks = refl
lives_shown lines.Bsr keys ks = refl
lives_shown (lines.Keys now) keys ks = refl
lives_shown (lines.Bearer config options) keys ks = refl
lives_shown (lines.Submit side lcid octets) keys ks = refl
lives_shown (lines.Tti up_grant up down_grant down) keys ks = refl
lives_shown (lines.Expire side lcid clock) keys ks = refl
lives_shown (lines.Handover user rrc integrity) keys ks = refl
lives_shown lines.LoopOff keys ks = refl
lives_shown (lines.LoopA size) keys ks = refl
lives_shown (lines.LoopB delay) keys ks = refl
lives_shown (lines.Drain grant) keys ks = refl
lives_shown (lines.Forge side octets) keys ks = refl
lives_shown (lines.Discard lcid count) keys ks = refl
lives_shown (lines.Drx config) keys ks = refl
lives_shown lines.End keys ks = refl

-- what is told up to a line
abbrev told_to : List Group → Group → List Record
told_to past g = history past ++ records.Line g.number g.line ∷ []

reached_behind : (past : List Group) → KeepsOrder past → IsReached (history past) (link_behind past)
unfolding fresh
reached_behind [] order = first_reached
reached_behind (g ∷ past) (right, order) =
    let l = link_behind past in
    let m = behind_line g.line (state_behind past) in
    let begun = begun_reached (history past) g.number g.line l (reached_behind past order) in
    let keys = (state_behind past).rules.keys in
    let line = line_goes (told_to past g) g.line keys l (all_behind past order).nothing begun right.in_range in
    let r = reached_then (lives_by g.line keys) (told_to past g) m.out l m begun line.nb line.ue
    (line.kinds_are ∙ lives_shown g.line keys l.kinds) in
    let all : told_to past g ++ m.out ≡ history (g ∷ past) =
    append_assoc (history past) (records.Line g.number g.line ∷ []) m.out
    ∙ ap (λ (x : List Record). history past ++ records.Line g.number g.line ∷ x) (sym right.events_are) in
    subst (λ (x : List Record). IsReached x (link_behind (g ∷ past))) all (record { nb = r.nb; ue = r.ue })

-- a group behind others
pub group_goes : (past : List Group) (g : Group) → KeepsOrder past → IsInRange g.line
    → LineGoes (lives_by g.line (state_behind past).rules.keys) (part_of_line g.line)
    (kinds_by g.line (link_behind past).kinds) (link_behind past) (behind_line g.line (state_behind past))
group_goes past g order fits =
    line_goes (history past) g.line (state_behind past).rules.keys (link_behind past) (all_behind past order).nothing
    (reached_behind past order) fits

pub come_by_calls : (past : List Group) → KeepsOrder past → ComeByCalls past
come_by_calls past order = let r = reached_behind past order in record { nb = r.nb.on.by; ue = r.ue.on.by }

pub kinds_behind : (past : List Group) → KeepsOrder past → (link_behind past).kinds ≡ kinds past
unfolding fresh fresh_link
kinds_behind [] order = refl
kinds_behind (g ∷ past) (right, order) =
    (group_goes past g order right.in_range).kinds_are
    ∙ ap (λ (x : List (Option Layout)). kinds_by g.line x) (kinds_behind past order)

-- the new blocks of a line, where its TTIs stand
pub line_is_told : (past : List Group) (line : Line) → KeepsOrder past → IsInRange line
    → AreTold (ttis_behind past) (kinds past) (part_of_line line) (behind_line line (state_behind past)).out
line_is_told past line order fits =
    let b = all_behind past order in
    let out = (behind_line line (state_behind past)).out in
    subst (λ (t : ℕ). AreTold t (kinds past) (part_of_line line) out) (sym b.ttis_is)
    (subst (λ (x : List (Option Layout)). AreTold (link_behind past).ttis x (part_of_line line) out)
    (kinds_behind past order)
    (line_goes (history past) line (state_behind past).rules.keys (link_behind past) b.nothing
    (reached_behind past order) fits).blocks)
