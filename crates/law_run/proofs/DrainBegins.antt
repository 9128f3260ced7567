-- Behind any lines a link may drain as a `drain` line is accepted, and its channels stand in order.
use Rattle.std.proofs.Common.{◌≡◌, ◌≤◌, ℕ, zero, suc, ◌+◌, ◌==◌, nat_lt, Bool, true, false, ◌||◌, if◌then◌else◌}
use Rattle.std.proofs.Common.{Option, None, List, [], ◌∷◌, refl, ap, sym, subst, ◌∙◌, arith}
use Rattle.std.proofs.lemmas.Bool.Decides.{nat_tests}
use Rattle.std.specs.List.{list_any}
use Rattle.air_link.specs.Draining.{drain_tti, carried, receivers_expire, is_drained}
use Rattle.air_link.specs.Link.{Link}
use Rattle.air_record.specs.Cells.{next_keys}
use Rattle.air_record.specs.declared.line.Line.{Line}
use Rattle.air_record.specs.declared.line.Line.TheVariants as lines
use Rattle.air_run.specs.Draining.{shown, ttis, senders_unless, round, left_by, rounds, budget, drained}
use Rattle.air_run.specs.Playing.{keys_or_none, acted, played}
use Rattle.air_run.specs.Rules.{Rules, no_rules, refused_if, rule_broken, refusal, accepted}
use Rattle.air_run.specs.Run.{fresh}
use Rattle.air_run.specs.declared.refusal.RunRefusal.TheVariants.{SmallDrain, LoopOn, Forged}
use Rattle.air_text.specs.Groups.{Group}
use Rattle.air_text.specs.Ranges.{IsInRange}
use Rattle.eps_sec.specs.declared.Keys.{Keys}
use Rattle.l2_num.specs.Ascending.{IsAscending}
use Rattle.l2_types.specs.declared.side.Side.TheVariants.{Nb}
use Rattle.law_run.specs.AnyCalls.Calls as calls
use Rattle.law_run.specs.AnyCalls.Deeds.{entities}
use Rattle.law_run.specs.AnyCalls.Runs.{Tti, Drains, Submit, Calls}
use Rattle.law_run.specs.DrainRounds.{MayDrain}
use Rattle.law_run.specs.DrainTtis.{HaveEight}
use Rattle.law_run.proofs.DrainTtis.Clearing.{first_eight, steps_eight}
use Rattle.prioritise.proofs.ChannelLemmas.{both_false}
use Rattle.promises.specs.Delivery.{forges, is_forged}
use Rattle.promises.specs.Drained.{is_drain}
use Rattle.promises.specs.Order.{Channels, with_lcid}
use Rattle.promises.specs.Telling.{channels_by, channels}
use Rattle.test_loop.specs.Loops.{is_on}
use Rattle.test_loop.specs.declared.Mode.TheVariants.{Off, A, B}
use Rattle.law_run.specs.DrainEnds.{lcids}
use Rattle.law_run.specs.Order.{state_behind, IsRight, KeepsOrder}
use Rattle.law_run.proofs.Counts.{was_absent}
use Rattle.law_run.proofs.DrainChannels.{has_listed, end_channels}
use Rattle.law_run.proofs.Keys.{not_first, not_second, no_cause}
use Rattle.law_run.proofs.Looping.{at_rest}
use Rattle.law_run.proofs.Past.{link_behind}
use Rattle.law_run.proofs.Zero.{have_come}

-- ---- both ends have eight processes each way

abbrev HasEight : Link → Type 0
HasEight k = HaveEight (entities k)

calls_eight : (c : calls.Call) (k : Link) → HasEight k → HasEight (calls.after c k)
calls_eight c k h = steps_eight (Calls c) k h

senders_eight : (b : Bool) (k : Link) → HasEight k → HasEight (senders_unless b k)
senders_eight true k h = h
senders_eight false k h = calls_eight calls.SendersExpire k h

round_eight : (grant : ℕ) (k : Link) → HasEight k → HasEight (round grant k)
round_eight grant k h =
    let m = drain_tti grant k in
    senders_eight (carried m) (receivers_expire m)
    (calls_eight calls.ReceiversExpire m (steps_eight (Drains grant) k h))

left_eight : (b : Bool) (grant : ℕ) (k : Link) → HasEight k → HasEight (left_by b grant k)
left_eight true grant k h = h
left_eight false grant k h = round_eight grant k h

ttis_eight : (n grant : ℕ) (k : Link) → HasEight k → HasEight (ttis n grant k).link
ttis_eight zero grant k h = h
ttis_eight (suc n) grant k h = ttis_eight n grant (shown (drain_tti grant k)) (steps_eight (Drains grant) k h)

rounds_eight : (n grant : ℕ) (k : Link) → HasEight k → HasEight (rounds n grant k).link
rounds_eight zero grant k h = h
rounds_eight (suc n) grant k h =
    rounds_eight n grant (left_by (is_drained k) grant k) (left_eight (is_drained k) grant k h)

drained_eight : (grant : ℕ) (k : Link) → HasEight k → HasEight (drained grant k).link
unfolding drained
drained_eight grant k h = rounds_eight (budget k) grant (ttis 8 grant k).link (ttis_eight 8 grant k h)

line_eight : (line : Line) (keys : Option Keys) (k : Link) → HasEight k → HasEight (played line keys k)
unfolding acted
line_eight (lines.Harq maximum) keys k h = calls_eight (calls.Visits maximum) k h
line_eight lines.Bsr keys k h = calls_eight calls.Reports k h
line_eight (lines.Keys ks) keys k h = h
line_eight (lines.Bearer config options) keys k h = calls_eight (calls.Bears config (keys_or_none keys)) k h
line_eight (lines.Submit side lcid octets) keys k h = steps_eight (Submit side lcid octets) k h
line_eight (lines.Tti up_grant up down_grant down) keys k h = steps_eight (Tti up_grant up down_grant down) k h
line_eight (lines.Expire side lcid clock) keys k h = calls_eight (calls.Expires side lcid clock) k h
line_eight (lines.Handover user rrc integrity) keys k h =
    calls_eight (calls.HandsOver (next_keys user rrc integrity (keys_or_none keys))) k h
line_eight lines.LoopOff keys k h = calls_eight (calls.Loops Off) k h
line_eight (lines.LoopA size) keys k h = calls_eight (calls.Loops (A size)) k h
line_eight (lines.LoopB delay) keys k h = calls_eight (calls.Loops (B delay)) k h
line_eight (lines.Drain grant) keys k h = drained_eight grant k h
line_eight (lines.Forge side octets) keys k h = calls_eight (calls.Forges side octets) k h
line_eight (lines.Discard lcid count) keys k h = calls_eight (calls.Discards lcid count) k h
line_eight (lines.Drx config) keys k h = calls_eight (calls.Listens config) k h
line_eight lines.End keys k h = h

eight_behind : (past : List Group) → HasEight (link_behind past)
unfolding fresh
eight_behind [] = first_eight
eight_behind (g ∷ past) = line_eight g.line (state_behind past).rules.keys (link_behind past) (eight_behind past)

-- ---- what a drain is refused for

module _ (grant : ℕ) (r : Rules) (k : Link) (allowed : refusal (lines.Drain grant) r k ≡ None) where
  unbroken : rule_broken (lines.Drain grant) r k ≡ None
  unbroken = not_first (rule_broken (lines.Drain grant) r k) _ allowed

  drain_large : nat_lt grant 200 ≡ false
  unfolding rule_broken
  drain_large =
      no_cause (nat_lt grant 200) SmallDrain (not_first (refused_if (nat_lt grant 200) SmallDrain) _ unbroken)

  drain_unlooped : is_on k.looping.mode ≡ false
  unfolding rule_broken
  drain_unlooped =
      no_cause (is_on k.looping.mode) LoopOn
      (not_first (refused_if (is_on k.looping.mode) LoopOn) _
      (not_second (refused_if (nat_lt grant 200) SmallDrain) _ unbroken))

  drain_unforged : r.forged ≡ false
  unfolding rule_broken
  drain_unforged =
      no_cause r.forged Forged
      (not_second (refused_if (is_on k.looping.mode) LoopOn) _
      (not_second (refused_if (nat_lt grant 200) SmallDrain) _ unbroken))

line_forges : (line : Line) (r : Rules) → (accepted line r).forged ≡ (forges line || r.forged)
unfolding accepted
line_forges (lines.Forge side octets) r = refl
line_forges line r = refl

pub forged_is : (past : List Group) → is_forged past ≡ (state_behind past).rules.forged
unfolding fresh no_rules
forged_is [] = refl
forged_is (g ∷ past) = ap (λ (b : Bool). forges g.line || b) (forged_is past)
    ∙ sym (line_forges g.line (state_behind past).rules)

-- ---- a line that drains

record DrainsBy (line : Line) : Type 0 where
  grant : ℕ
  line_is : line ≡ lines.Drain grant

drains_by : (line : Line) → is_drain line ≡ true → DrainsBy line
drains_by (lines.Drain grant) e = record { grant = grant; line_is = refl }
drains_by line e = absurd cc

-- by what stands behind it, the link may drain
pub record MayBegin (past : List Group) (g : Group) : Type 0 where
  pub grant : ℕ
  pub line_is : g.line ≡ lines.Drain grant
  pub some : 200 ≤ grant
  pub few : grant ≤ 9422
  pub unforged : is_forged past ≡ false
  pub may : MayDrain (link_behind past)

pub may_begin : (past : List Group) (g : Group) → IsRight past g → KeepsOrder past → is_drain g.line ≡ true
    → MayBegin past g
may_begin past g right order d =
    let by = drains_by g.line d in
    let r = (state_behind past).rules in
    let k = link_behind past in
    let allowed = subst (λ (line : Line). refusal line r k ≡ None) by.line_is right.allowed in
    let large = drain_large by.grant r k allowed in
    record {
      grant = by.grant;
      line_is = by.line_is;
      some = grind (arith, nat_tests, large);
      few = subst IsInRange by.line_is right.in_range;
      unforged = forged_is past ∙ drain_unforged by.grant r k allowed;
      may = record {
        eight = eight_behind past;
        come = have_come past order;
        rests = at_rest past order;
        off = drain_unlooped by.grant r k allowed;
      };
    }

pub none_forged : (past : List Group) (g : Group) → IsRight past g → KeepsOrder past → is_drain g.line ≡ true
    → is_forged (g ∷ past) ≡ false
none_forged past g right order d =
    let m = may_begin past g right order d in
    ap (λ (line : Line). forges line || is_forged past) m.line_is ∙ m.unforged

-- ---- its channels, each once

with_ascends : (low d : ℕ) (ns : List ℕ) → low ≤ d → list_any (λ n. d == n) ns ≡ false → IsAscending low ns
    → IsAscending low (with_lcid d ns)
with_ascends low d [] from none a = (from, tt)
with_ascends low d (n ∷ ns) from none a =
    let apart = both_false (d == n) (list_any (λ n. d == n) ns) none in
    by (nat_lt n d) refl apart.0 (λ above. with_ascends (n + 1) d ns above apart.1 a.1)
  where
    by : (t : Bool) → nat_lt n d ≡ t → (d == n) ≡ false → (n + 1 ≤ d → IsAscending (n + 1) (with_lcid d ns))
        → IsAscending low (if t then n ∷ with_lcid d ns else d ∷ n ∷ ns)
    by true below other more = (a.0, more (grind (arith, nat_tests, below)))
    by false below other more = (from, (grind (arith, nat_tests, below, other), a.1))

line_ascends : (past : List Group) (g : Group) (line : Line) → g.line ≡ line → IsRight past g → KeepsOrder past
    → IsAscending 0 (lcids past) → IsAscending 0 (channels_by line (channels past)).by_lcid
line_ascends past g (lines.Bearer config options) is right order before =
    let l = config.channel.lcid in
    let k = link_behind past in
    let here = subst (λ (line : Line). IsRight past (record g { line = line })) is right in
    let none : list_any (λ n. l == n) (lcids past) ≡ false =
    sym (has_listed l k.nb ∙ ap (λ (c : Channels). list_any (λ n. l == n) c.by_lcid) (end_channels Nb past order))
    ∙ was_absent Nb config options (state_behind past).rules k here.allowed in
    with_ascends 0 l (lcids past) (omega arith) none before
line_ascends past g line is right order before = before

pub lcids_ascend : (past : List Group) → KeepsOrder past → IsAscending 0 (lcids past)
lcids_ascend [] order = tt
lcids_ascend (g ∷ past) (right, order) = line_ascends past g g.line refl right order (lcids_ascend past order)
