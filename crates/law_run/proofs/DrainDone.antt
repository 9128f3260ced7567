-- Each `drain` line leaves both ends drained, within its budget, and tells so.
use Rattle.std.proofs.Common.{◌≡◌, ◌≤◌, ℕ, zero, suc, ◌+◌, Bool, true, false, List, [], ◌∷◌, ◌++◌, length, refl, ap}
use Rattle.std.proofs.Common.{sym, subst, ◌∙◌, arith}
use Rattle.std.specs.List.{filter, AllByRecursion}
use Rattle.air_link.specs.Draining.{drain_tti, is_drained}
use Rattle.air_link.specs.Link.{Link}
use Rattle.air_record.specs.declared.line.Line.{Line}
use Rattle.air_record.specs.declared.line.Line.TheVariants as lines
use Rattle.air_record.specs.declared.record.Record.{Record}
use Rattle.air_record.specs.declared.record.Record.TheVariants as records
use Rattle.air_run.specs.Draining.{shown, behind, ttis, left_by, done_by, rounds, budget, drained}
use Rattle.air_run.specs.Playing.{acted}
use Rattle.air_text.specs.Groups.{Group}
use Rattle.l2_types.specs.declared.side.Side.TheVariants.{Nb}
use Rattle.law_run.specs.DrainRounds.{MayDrain}
use Rattle.law_run.proofs.AnyCalls.Passing.{drain_adds}
use Rattle.law_node.specs.Holding.{flow}
use Rattle.promises.specs.Air.{is_tti}
use Rattle.promises.specs.Drained.{is_drain, EndsDrained, DrainsEnd}
use Rattle.promises.specs.Order.{Channels}
use Rattle.law_run.specs.DrainBudget.{HaveCounts}
use Rattle.law_run.specs.DrainEnds.{lcids, IsDone, NoneSpendsItsBudget}
use Rattle.law_run.specs.Order.{IsRight, KeepsOrder}
use Rattle.law_run.proofs.DrainBegins.{MayBegin, may_begin, lcids_ascend}
use Rattle.law_run.proofs.DrainBudget.{lines_have_budgets}
use Rattle.law_run.proofs.DrainChannels.{has_listed, has_config, end_channels}
use Rattle.law_run.proofs.DrainCounts.{counts_end}
use Rattle.law_run.proofs.DrainEnds.{all_listed, are_on, rounds_end}
use Rattle.law_run.proofs.DrainFalls.{is_listed}
use Rattle.law_run.proofs.DrainGoing.{goes_first}
use Rattle.law_run.proofs.DrainTracks.{links_track}
use Rattle.law_run.proofs.Lines.{drains_add}
use Rattle.law_run.proofs.Past.{behind as all_behind, link_behind}
use Rattle.law_run.proofs.Records.{count_numbered}
use Rattle.law_run.proofs.Ttis.{round_adds, drained_adds}

-- ---- the bearers that lines brought

pub links_have_counts : (past : List Group) → KeepsOrder past
    → AllByRecursion (HaveCounts (link_behind past)) (lcids past)
links_have_counts past order = all_listed (HaveCounts (link_behind past)) (lcids past) one
  where
    one : (l : ℕ) → is_listed l (lcids past) ≡ true → HaveCounts (link_behind past) l
    one l here =
        let k = link_behind past in
        let same = end_channels Nb past order in
        let there = has_listed l k.nb ∙ ap (λ (c : Channels). is_listed l c.by_lcid) same ∙ here in
        let c = has_config l past k.nb same there in
        let t = links_track l past c.config order c.is in
        (counts_end (flow l k.nb) t.nb.counts, counts_end (flow l k.ue) t.ue.counts)

-- ---- the rounds of the budget are more than the measure that the first TTIs leave

begun_ends : (past : List Group) (g : Group) → KeepsOrder past → (m : MayBegin past g)
    → is_drained (drained m.grant (link_behind past)).link ≡ true
unfolding drained
begun_ends past g order m =
    let k = link_behind past in
    let on = are_on past order k (goes_first past order m.unforged m.may) in
    let some = m.some in
    let b =
    lines_have_budgets 8 m.grant k (lcids past) (omega (arith, some), m.few) m.may (lcids_ascend past order) on
    (links_have_counts past order) in
    let within = b.within in
    rounds_end past m.grant (budget k) order m.unforged m.may m.some m.few b.measured (omega (arith, within))

-- ---- how many rounds it has

rounds_few : (n grant : ℕ) (k : Link) → (rounds n grant k).done ≤ n
rounds_few zero grant k = omega arith
rounds_few (suc n) grant k = by (is_drained k) (rounds_few n grant (left_by (is_drained k) grant k))
  where
    by : (b : Bool) → (rounds n grant (left_by (is_drained k) grant k)).done ≤ n
        → done_by b + (rounds n grant (left_by (is_drained k) grant k)).done ≤ suc n
    by true few = omega (arith, few)
    by false few = omega (arith, few)

drained_few : (grant : ℕ) (k : Link) → (drained grant k).done ≤ budget k
unfolding drained
drained_few grant k = omega (arith, rounds_few (budget k) grant (ttis 8 grant k).link)

ttis_passed : (n grant : ℕ) (k : Link) → (ttis n grant k).link.ttis ≡ k.ttis + n
ttis_passed zero grant k = omega arith
ttis_passed (suc n) grant k =
    omega (arith, ttis_passed n grant (shown (drain_tti grant k)), (drain_adds grant k).ttis_is)

left_passed : (b : Bool) (grant : ℕ) (k : Link) → (left_by b grant k).ttis ≡ k.ttis + done_by b
left_passed true grant k = omega arith
left_passed false grant k = (round_adds grant k).ttis_is

rounds_passed : (n grant : ℕ) (k : Link) → (rounds n grant k).link.ttis ≡ k.ttis + (rounds n grant k).done
rounds_passed zero grant k = omega arith
rounds_passed (suc n) grant k =
    omega (arith, rounds_passed n grant (left_by (is_drained k) grant k), left_passed (is_drained k) grant k)

drained_passed : (grant : ℕ) (k : Link) → (drained grant k).link.ttis ≡ k.ttis + (8 + (drained grant k).done)
unfolding drained
drained_passed grant k =
    let m = (ttis 8 grant k).link in
    omega (arith, ttis_passed 8 grant k, rounds_passed (budget k) grant m)

-- each TTI has its record
drained_ttis : (grant : ℕ) (k : Link) → k.out ≡ []
    → length (filter is_tti (drained grant k).journal) ≡ 8 + (drained grant k).done
drained_ttis grant k nothing =
    let a = drains_add grant k (drained grant k) (drained_adds grant k nothing) in
    let count : length (filter is_tti (drained grant k).journal) ≡ a.count =
    ap (λ (x : List Record). length x) a.numbers ∙ count_numbered k.ttis a.count in
    omega (arith, count, a.ttis_is, drained_passed grant k)

-- ---- how it ends

abbrev said : ℕ → Link → List Record
said grant k = (behind (ttis 8 grant k).journal 0 (rounds (budget k) grant (ttis 8 grant k).link)).journal

tells_so : (grant : ℕ) (k : Link)
    → (drained grant k).journal ≡ said grant k ++ records.Drained (drained grant k).done ∷ []
unfolding drained
tells_so grant k = refl

-- ---- the line

record Plays (past : List Group) (g : Group) (grant : ℕ) : Type 0 where
  link_is : is_drained (link_behind (g ∷ past)) ≡ is_drained (drained grant (link_behind past)).link
  events_are : g.events ≡ (drained grant (link_behind past)).journal

plays_so : (past : List Group) (g : Group) (grant : ℕ) → IsRight past (record g { line = lines.Drain grant })
    → Plays past (record g { line = lines.Drain grant }) grant
unfolding acted
plays_so past g grant right = record { link_is = refl; events_are = right.events_are }

plays : (past : List Group) (g : Group) (grant : ℕ) → g.line ≡ lines.Drain grant → IsRight past g → Plays past g grant
plays past g grant is right =
    subst (λ (line : Line). Plays past (record g { line = line }) grant) (sym is)
    (plays_so past g grant (subst (λ (line : Line). IsRight past (record g { line = line })) is right))

module _ (past : List Group) (g : Group) (right : IsRight past g) (order : KeepsOrder past)
    (d : is_drain g.line ≡ true) where
  begins : MayBegin past g
  begins = may_begin past g right order d

  abbrev k : Link
  k = link_behind past

  line_plays : Plays past g begins.grant
  line_plays = plays past g begins.grant begins.line_is right

  ttis_are : length (filter is_tti g.events) ≡ 8 + (drained begins.grant k).done
  ttis_are =
      ap (λ (told : List Record). length (filter is_tti told)) line_plays.events_are
      ∙ drained_ttis begins.grant k (all_behind past order).nothing

  pub is_done : IsDone past g
  is_done = record {
    drained = line_plays.link_is ∙ begun_ends past g order begins;
    within = omega (arith, ttis_are, drained_few begins.grant k);
  }

  ends_drained : EndsDrained g
  ends_drained = record {
    rounds = (drained begins.grant k).done;
    before = said begins.grant k;
    events_are = line_plays.events_are ∙ tells_so begins.grant k;
    ttis_are = ttis_are;
  }

-- ---- all lines

pub links_may_drain : (past : List Group) (g : Group) → KeepsOrder (g ∷ past) → is_drain g.line ≡ true
    → MayDrain (link_behind past)
links_may_drain past g (right, order) d = (may_begin past g right order d).may

pub none_spends : (past : List Group) → KeepsOrder past → NoneSpendsItsBudget past
none_spends [] order = tt
none_spends (g ∷ past) (right, order) = (λ d. is_done past g right order d, none_spends past order)

pub drains_end : (past : List Group) → KeepsOrder past → DrainsEnd past
drains_end [] order = tt
drains_end (g ∷ past) (right, order) = (λ d. ends_drained past g right order d, drains_end past order)
