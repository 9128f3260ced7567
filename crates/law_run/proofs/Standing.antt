-- The records of every line stand in order.
use Rattle.std.proofs.Common.{◌≡◌, ◌≤◌, ℕ, zero, suc, ◌+◌, Bool, true, false, List, [], ◌∷◌, ◌++◌, append_assoc, refl}
use Rattle.std.proofs.Common.{ap, sym, subst, arith, ◌∙◌}
use Rattle.std.specs.Prelude.{Option, None}
use Rattle.std.specs.List.{list_any}
use Rattle.air_link.specs.Draining.{drain_tti, carried, receivers_expire, is_drained}
use Rattle.pdu_show.specs.Carried.{is_carried}
use Rattle.air_link.specs.Link.{Link, end_of, fresh as fresh_link}
use Rattle.air_record.specs.declared.line.Line.{Line}
use Rattle.air_record.specs.declared.line.Line.TheVariants as lines
use Rattle.air_record.specs.declared.record.Record.{Record}
use Rattle.air_run.specs.Draining.{shown, Drained, at_once, behind, ttis, senders_unless, round, left_by, done_by}
use Rattle.air_run.specs.Draining.{round_told, rounds, budget, drained}
use Rattle.air_record.specs.declared.record.Record.TheVariants as records
use Rattle.air_run.specs.Playing.{keys_or_none, acted, played}
use Rattle.air_record.specs.Cells.{next_keys}
use Rattle.air_run.specs.Rules.{Rules, refusal, rule_broken, is_idle}
use Rattle.air_run.specs.Run.{fresh, behind_line}
use Rattle.air_run.specs.declared.refusal.RunRefusal.TheVariants.{TimerIdle}
use Rattle.air_text.specs.Groups.{Group}
use Rattle.air_text.specs.Ranges.{IsInRange}
use Rattle.law_words.specs.Sequences.{nothing, ◌then◌}
use Rattle.eps_sec.specs.declared.Keys.{Keys}
use Rattle.l2_node.specs.End.{End, fresh as fresh_end}
use Rattle.l2_types.specs.declared.side.Side.{Side}
use Rattle.l2_types.specs.declared.side.Side.TheVariants.{Nb, Ue}
use Rattle.law_node.specs.Order.{channels as of_bearers}
use Rattle.law_node.proofs.Standing.{OwnsChannels}
use Rattle.law_run.specs.AnyCalls.Calls as calls
use Rattle.law_run.specs.AnyCalls.Ends.{LivesOn}
use Rattle.law_run.specs.AnyCalls.Order.{channels_of, Leaves}
use Rattle.promises.specs.Order.{Channels, OfRecords, LoopTells, TtiTells, DrainTtiTells, ExpiryTells, ReceiversTell}
use Rattle.promises.specs.Order.{ForgeTells, HandoverTells, SubmitTells}
use Rattle.law_run.proofs.AnyCalls.Advancing.{call_goes_on, drain_goes}
use Rattle.law_run.proofs.AnyCalls.Channels.{channels_over, AreNew, channels_go, owns_on, known_channel}
use Rattle.law_run.proofs.AnyCalls.Ordering.{leaves_then, leaves_nothing}
use Rattle.law_run.proofs.AnyCalls.Passing.{drain_adds}
use Rattle.law_run.proofs.AnyCalls.Readying.{Ready, both_ready_on}
use Rattle.law_run.proofs.AnyCalls.Standing.{call_tells, expiry_tells, submissions_tell}
use Rattle.law_run.proofs.AnyCalls.Standing.{tti_tells, drain_tells}
use Rattle.pdu_show.specs.declared.kinds.Layout.{Layout}
use Rattle.prioritise.specs.Shares.{no_channels}
use Rattle.test_loop.specs.declared.Mode.TheVariants.{Off, A, B}
use Rattle.promises.specs.Air.{ttis as ttis_behind, InTurn}
use Rattle.promises.specs.Blocks.{kinds}
use Rattle.law_run.specs.Order.{state_behind, KeepsOrder}
use Rattle.promises.specs.Telling.{SendersTellUnless, RoundTells, DrainTells, LineTells, channels_by, channels}
use Rattle.promises.specs.Telling.{LinesTell}
use Rattle.law_run.proofs.Keys.{not_second, no_cause}
use Rattle.law_run.proofs.Counts.{was_absent}
use Rattle.law_run.proofs.Past.{behind as all_behind, link_behind}
use Rattle.law_run.proofs.Reaching.{round_goes, lives_by, group_goes, kinds_behind}
use Rattle.law_run.proofs.Ttis.{round_adds}
use Rattle.law_run.proofs.Zero.{have_come}

-- where nothing was told before
alone : (These : OfRecords) (l m : Link) → l.out ≡ [] → Leaves These l m → These m.out
alone These l m nothing p = subst These (sym (p.out_is ∙ ap (λ (x : List Record). x ++ p.more) nothing)) p.in_order

-- the records are written
pub shown_ready : (c : Side → Channels) (l : Link) → Ready c l → Ready c (shown l)
shown_ready c l r = record { nb = r.nb; ue = r.ue }

-- ---- a round

senders_tell : (b : Bool) (c : Side → Channels) (l : Link) → Ready c l
    → Leaves (SendersTellUnless b) l (senders_unless b l)
senders_tell true c l r = leaves_nothing l l refl
senders_tell false c l r = call_tells calls.SendersExpire c l r

round_tells : (c : Side → Channels) (grant : ℕ) (l : Link) → c Nb ≡ c Ue → grant ≤ 9422 → l.out ≡ [] → Ready c l
    → RoundTells l.ttis l.kinds c (round grant l).out
round_tells c grant l alike within none r =
    let m = drain_tti grant l in
    let n = receivers_expire m in
    let o = senders_unless (carried m) n in
    let to_m = (drain_goes grant l within).goes in
    let at_m = both_ready_on c _ l m to_m r in
    let at_n = both_ready_on c [] m n (call_goes_on calls.ReceiversExpire m tt) at_m in
    let q = leaves_then ReceiversTell (SendersTellUnless (carried m)) m n o
    (call_tells calls.ReceiversExpire c m at_m) (senders_tell (carried m) c n at_n) in
    record {
      tti = m.out;
      timers = q.more;
      told_is = q.out_is;
      tti_is = alone (DrainTtiTells l.ttis l.kinds c) l m none (drain_tells c grant l alike within r);
      timers_are =
          subst
          (λ (ks : List (Option Layout)). (ReceiversTell then SendersTellUnless (list_any (is_carried ks) m.out))
          q.more) to_m.kinds_are q.in_order;
    }

-- ---- a part of a drain

record Turns (Each : ℕ → OfRecords) (kinds' : List (Option Layout)) (c : Side
    → Channels) (count : ℕ) (l : Link) (d : Drained) : Type 0 where
  none : d.link.out ≡ []
  ready : Ready c d.link
  ttis_is : d.link.ttis ≡ l.ttis + count
  kinds_are : d.link.kinds ≡ kinds'
  in_turn : InTurn Each l.ttis count d.journal

no_turn : (Each : ℕ → OfRecords) (kinds' : List (Option Layout)) (c : Side → Channels) (l : Link) → l.out ≡ []
    → l.kinds ≡ kinds' → Ready c l → Turns Each kinds' c 0 l (at_once l)
no_turn Each kinds' c l none same r =
    record { none = none; ready = r; ttis_is = omega arith; kinds_are = same; in_turn = refl }

-- one before others
first_turn : (Each : ℕ → OfRecords) (kinds' : List (Option Layout)) (c : Side
    → Channels) (n done : ℕ) (l m : Link) (d : Drained) → Each l.ttis m.out → m.ttis ≡ l.ttis + 1
    → Turns Each kinds' c n (shown m) d → Turns Each kinds' c (suc n) l (behind m.out done d)
first_turn Each kinds' c n done l m d one next q = record {
  none = q.none;
  ready = q.ready;
  ttis_is = omega (arith, q.ttis_is, next);
  kinds_are = q.kinds_are;
  in_turn = record {
    first = m.out;
    second = d.journal;
    told_are = refl;
    is_first = one;
    is_second = subst (λ (t : ℕ). InTurn Each t n d.journal) next q.in_turn;
  };
}

ttis_turn : (kinds' : List (Option Layout)) (c : Side → Channels) (n grant : ℕ) (l : Link) → c Nb ≡ c Ue
    → grant ≤ 9422 → l.out ≡ []
    → l.kinds ≡ kinds' → Ready c l → Turns (λ t. DrainTtiTells t kinds' c) kinds' c n l (ttis n grant l)
ttis_turn kinds' c zero grant l alike within none same r =
    no_turn (λ t. DrainTtiTells t kinds' c) kinds' c l none same r
ttis_turn kinds' c (suc n) grant l alike within none same r =
    let m = drain_tti grant l in
    let g = (drain_goes grant l within).goes in
    let one = subst (λ (ks : List (Option Layout)). DrainTtiTells l.ttis ks c m.out) same
    (alone (DrainTtiTells l.ttis l.kinds c) l m none (drain_tells c grant l alike within r)) in
    first_turn (λ t. DrainTtiTells t kinds' c) kinds' c n 0 l m (ttis n grant (shown m)) one
    (drain_adds grant l).ttis_is
    (ttis_turn kinds' c n grant (shown m) alike within refl (g.kinds_are ∙ same)
    (shown_ready c m (both_ready_on c _ l m g r)))

abbrev Rounds : List (Option Layout) → (Side → Channels) → ℕ → Link → Drained → Type 0
Rounds kinds' c n l d = Turns (λ t. RoundTells t kinds' c) kinds' c n l d

round_by : (kinds' : List (Option Layout)) (c : Side → Channels) (n grant : ℕ) (l : Link) → c Nb ≡ c Ue
    → grant ≤ 9422 → l.out ≡ []
    → l.kinds ≡ kinds' → Ready c l → (b : Bool)
    → ((m : Link) → m.out ≡ [] → m.kinds ≡ kinds' → Ready c m
    → Rounds kinds' c (rounds n grant m).done m (rounds n grant m))
    → Rounds kinds' c (done_by b + (rounds n grant (left_by b grant l)).done) l
    (behind (round_told b grant l) (done_by b) (rounds n grant (left_by b grant l)))
round_by kinds' c n grant l alike within none same r true rest =
    let q = rest l none same r in
    let count : 0 + (rounds n grant l).done ≡ (rounds n grant l).done = omega arith in
    subst (λ (k : ℕ). Rounds kinds' c k l (behind [] 0 (rounds n grant l))) (sym count)
    (record { none = q.none; ready = q.ready; ttis_is = q.ttis_is; kinds_are = q.kinds_are; in_turn = q.in_turn })
round_by kinds' c n grant l alike within none same r false rest =
    let m = round grant l in
    let d = rounds n grant (shown m) in
    let g = (round_goes grant l within).goes in
    let count : 1 + d.done ≡ suc d.done = omega arith in
    let one = subst (λ (ks : List (Option Layout)). RoundTells l.ttis ks c m.out) same
    (round_tells c grant l alike within none r) in
    subst (λ (k : ℕ). Rounds kinds' c k l (behind m.out 1 d)) (sym count)
    (first_turn (λ t. RoundTells t kinds' c) kinds' c d.done 1 l m d one (round_adds grant l).ttis_is
    (rest (shown m) refl (g.kinds_are ∙ same) (shown_ready c m (both_ready_on c _ l m g r))))

rounds_turn : (kinds' : List (Option Layout)) (c : Side → Channels) (n grant : ℕ) (l : Link) → c Nb ≡ c Ue
    → grant ≤ 9422
    → l.out ≡ [] → l.kinds ≡ kinds' → Ready c l → Rounds kinds' c (rounds n grant l).done l (rounds n grant l)
rounds_turn kinds' c zero grant l alike within none same r = no_turn (λ t. RoundTells t kinds' c) kinds' c l none same r
rounds_turn kinds' c (suc n) grant l alike within none same r =
    round_by kinds' c n grant l alike within none same r (is_drained l)
    (λ m e s q. rounds_turn kinds' c n grant m alike within e s q)

-- ---- the whole

drained_tells : (c : Side → Channels) (grant : ℕ) (l : Link) → c Nb ≡ c Ue → grant ≤ 9422 → l.out ≡ [] → Ready c l
    → DrainTells l.ttis l.kinds c (drained grant l).journal
unfolding drained
drained_tells c grant l alike within none r =
    let d = ttis 8 grant l in
    let e = rounds (budget l) grant d.link in
    let p = ttis_turn l.kinds c 8 grant l alike within none refl r in
    let q = rounds_turn l.kinds c (budget l) grant d.link alike within p.none p.kinds_are p.ready in
    let whole = behind d.journal 0 e in
    let last = records.Drained whole.done ∷ [] in
    let count : 0 + e.done ≡ e.done = omega arith in
    record {
      rounds = e.done;
      in_turn = record {
        first = d.journal;
        second = e.journal ++ last;
        told_are = append_assoc d.journal e.journal last;
        is_first = p.in_turn;
        is_second = record {
          first = e.journal;
          second = last;
          told_are = refl;
          is_first = subst (λ (t : ℕ). InTurn (λ n. RoundTells n l.kinds c) t e.done e.journal) p.ttis_is q.in_turn;
          is_second = ap (λ (n : ℕ). records.Drained n ∷ []) count;
        };
      };
    }

-- ---- every line

line_tells : (line : Line) (keys : Option Keys) (c : Side → Channels) (l : Link) → l.out ≡ [] → IsInRange line
    → is_idle line l ≡ false → c Nb ≡ c Ue → Ready c l → LineTells l.ttis l.kinds c line (played line keys l).out
unfolding acted
line_tells (lines.Harq maximum) keys c l none fits runs alike r =
    alone nothing l _ none (call_tells (calls.Visits maximum) c l r)
line_tells lines.Bsr keys c l none fits runs alike r = alone nothing l _ none (call_tells calls.Reports c l r)
line_tells (lines.Keys ks) keys c l none fits runs alike r = none
line_tells (lines.Bearer config options) keys c l none fits runs alike r =
    alone nothing l _ none (call_tells (calls.Bears config (keys_or_none keys)) c l r)
line_tells (lines.Submit side lcid octets) keys c l none fits runs alike r =
    alone (SubmitTells side lcid) l _ none (submissions_tell side lcid octets l)
line_tells (lines.Tti up_grant up down_grant down) keys c l none fits runs alike r =
    alone (TtiTells l.ttis l.kinds c) l _ none (tti_tells c up_grant up down_grant down l alike fits.up fits.down r)
line_tells (lines.Expire side lcid clock) keys c l none fits runs alike r =
    alone (ExpiryTells side lcid clock) l _ none (expiry_tells c side lcid clock l r runs)
line_tells (lines.Handover user rrc integrity) keys c l none fits runs alike r =
    alone (HandoverTells c) l _ none
    (call_tells (calls.HandsOver (next_keys user rrc integrity (keys_or_none keys))) c l r)
line_tells lines.LoopOff keys c l none fits runs alike r = alone LoopTells l _ none (call_tells (calls.Loops Off) c l r)
line_tells (lines.LoopA size) keys c l none fits runs alike r =
    alone LoopTells l _ none (call_tells (calls.Loops (A size)) c l r)
line_tells (lines.LoopB delay) keys c l none fits runs alike r =
    alone LoopTells l _ none (call_tells (calls.Loops (B delay)) c l r)
line_tells (lines.Drain grant) keys c l none fits runs alike r = drained_tells c grant l alike fits none r
line_tells (lines.Forge side octets) keys c l none fits runs alike r =
    alone (ForgeTells side (c side) octets) l _ none (call_tells (calls.Forges side octets) c l r)
line_tells (lines.Discard lcid count) keys c l none fits runs alike r =
    alone nothing l _ none (call_tells (calls.Discards lcid count) c l r)
line_tells (lines.Drx config) keys c l none fits runs alike r =
    alone nothing l _ none (call_tells (calls.Listens config) c l r)
line_tells lines.End keys c l none fits runs alike r = none

-- ---- the channels behind groups

lives_channels : (line : Line) (keys : Option Keys) (c : Channels)
    → channels_over (lives_by line keys) c ≡ channels_by line c
lives_channels (lines.Harq maximum) keys c = refl
lives_channels lines.Bsr keys c = refl
lives_channels (lines.Keys now) keys c = refl
lives_channels (lines.Bearer config options) keys c = refl
lives_channels (lines.Submit side lcid octets) keys c = refl
lives_channels (lines.Tti up_grant up down_grant down) keys c = refl
lives_channels (lines.Expire side lcid clock) keys c = refl
lives_channels (lines.Handover user rrc integrity) keys c = refl
lives_channels lines.LoopOff keys c = refl
lives_channels (lines.LoopA size) keys c = refl
lives_channels (lines.LoopB delay) keys c = refl
lives_channels (lines.Drain grant) keys c = refl
lives_channels (lines.Forge side octets) keys c = refl
lives_channels (lines.Discard lcid count) keys c = refl
lives_channels (lines.Drx config) keys c = refl
lives_channels lines.End keys c = refl

-- a line adds a bearer only where none has its LCID
new_bearer : (side : Side) (line : Line) (r : Rules) (keys : Option Keys) (l : Link) → refusal line r l ≡ None
    → AreNew (lives_by line keys) (of_bearers (end_of side l).bearers)
new_bearer side (lines.Bearer config options) r keys l allowed =
    (sym (known_channel config.channel.lcid (end_of side l).bearers) ∙ was_absent side config options r l allowed, tt)
new_bearer side (lines.Handover user rrc integrity) r keys l allowed = tt
new_bearer side (lines.Harq maximum) r keys l allowed = tt
new_bearer side lines.Bsr r keys l allowed = tt
new_bearer side (lines.Keys now) r keys l allowed = tt
new_bearer side (lines.Submit at lcid octets) r keys l allowed = tt
new_bearer side (lines.Tti up_grant up down_grant down) r keys l allowed = tt
new_bearer side (lines.Expire at lcid clock) r keys l allowed = tt
new_bearer side lines.LoopOff r keys l allowed = tt
new_bearer side (lines.LoopA size) r keys l allowed = tt
new_bearer side (lines.LoopB delay) r keys l allowed = tt
new_bearer side (lines.Drain grant) r keys l allowed = tt
new_bearer side (lines.Forge at octets) r keys l allowed = tt
new_bearer side (lines.Discard lcid count) r keys l allowed = tt
new_bearer side (lines.Drx config) r keys l allowed = tt
new_bearer side lines.End r keys l allowed = tt

-- of an end: they are those that are told, and its bearers'
pub record AreOf (c : Channels) (e : End) : Type 0 where
  pub told_are : channels_of e ≡ c
  pub own : OwnsChannels e

pub record AreOfBoth (c : Channels) (l : Link) : Type 0 where
  pub nb : AreOf c l.nb
  pub ue : AreOf c l.ue

first_channels : AreOfBoth (channels []) (link_behind [])
unfolding fresh fresh_link fresh_end no_channels
first_channels = record { nb = record { told_are = refl; own = refl }; ue = record { told_are = refl; own = refl } }

next_channels : (side : Side) (told : List Record) (line : Line) (keys : Option Keys) (c : Channels) (e f : End)
    → LivesOn (lives_by line keys) side told e f → AreNew (lives_by line keys) (of_bearers e.bearers) → AreOf c e
    → AreOf (channels_by line c) f
next_channels side told line keys c e f k new is = record {
  told_are = channels_go (lives_by line keys) side told e f k new is.own
      ∙ ap (channels_over (lives_by line keys)) is.told_are ∙ lives_channels line keys c;
  own = owns_on (lives_by line keys) side told e f k new is.own;
}

pub channels_behind : (past : List Group) → KeepsOrder past → AreOfBoth (channels past) (link_behind past)
channels_behind [] order = first_channels
channels_behind (g ∷ past) (right, order) =
    let l = link_behind past in
    let m = behind_line g.line (state_behind past) in
    let keys = (state_behind past).rules.keys in
    let goes = group_goes past g order right.in_range in
    let are = channels_behind past order in
    record {
      nb = next_channels Nb m.out g.line keys (channels past) l.nb m.nb goes.nb
          (new_bearer Nb g.line (state_behind past).rules keys l right.allowed) are.nb;
      ue = next_channels Ue m.out g.line keys (channels past) l.ue m.ue goes.ue
          (new_bearer Ue g.line (state_behind past).rules keys l right.allowed) are.ue;
    }

-- ---- all lines

pub lines_tell : (past : List Group) → KeepsOrder past → LinesTell past
lines_tell [] order = tt
lines_tell (g ∷ past) (right, order) =
    let b = all_behind past order in
    let l = link_behind past in
    let c : Side → Channels = λ side. channels past in
    let out = (behind_line g.line (state_behind past)).out in
    let come = have_come past order in
    let are = channels_behind past order in
    let ready : Ready c l = record {
      nb = record { come = come.nb; channels_are = are.nb.told_are };
      ue = record { come = come.ue; channels_are = are.ue.told_are };
    } in
    let rules = (state_behind past).rules in
    let runs = no_cause (is_idle g.line l) TimerIdle (not_second (rule_broken g.line rules l) _ right.allowed) in
    let told = line_tells g.line rules.keys c l b.nothing right.in_range runs refl ready in
    let here = subst (λ (t : ℕ). LineTells t l.kinds c g.line out) (sym b.ttis_is) told in
    let known = subst (λ (ks : List (Option Layout)). LineTells (ttis_behind past) ks c g.line out)
    (kinds_behind past order) here in
    (subst (LineTells (ttis_behind past) (kinds past) c g.line) (sym right.events_are) known, lines_tell past order)
