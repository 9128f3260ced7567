-- The buckets of an end, through any calls.
use Rattle.std.proofs.Common.{◌≡◌, ◌<◌, ℕ, ◌+◌, Bool, true, false, List, [], ◌∷◌, length, get_or, set, refl}
use Rattle.std.proofs.Common.{sym, subst, ◌∙◌, arith}
use Rattle.std.proofs.Math.ListN.{length-set}
use Rattle.std.specs.List.{AllByRecursion}
use Rattle.bearer_types.specs.Configs.{IsChannelOf}
use Rattle.eps_sec.specs.declared.Keys.{Keys}
use Rattle.harq.specs.declared.sender.Order.{Order}
use Rattle.harq.specs.declared.sender.Visit.{Visit}
use Rattle.harq.specs.declared.sender.Visit.TheVariants.{New, Resend, Silent}
use Rattle.l2_types.specs.declared.channel.Channel.{Channel}
use Rattle.l2_types.specs.declared.channel.Kind.{Kind}
use Rattle.l2_types.specs.declared.channel.Kind.TheVariants.{Tm, Srb, Um, Am}
use Rattle.l2_types.specs.declared.side.Side.{Side}
use Rattle.prioritise.proofs.ChannelLemmas.{sound_more, sound_none}
use Rattle.prioritise.specs.Channels.{AreSound, has, place}
use Rattle.prioritise.specs.ShareLaws.{IsSound}
use Rattle.prioritise.specs.Shares.{Bucketed, Giving, no_channels, added, grown, all_grown, ticked, fallen}
use Rattle.prioritise.specs.Shares.{first_part, first_given, round_one, second_part, second_given, round_two, ungiven}
use Rattle.prioritise.specs.Shares.{first_shared, shared, after_allot}
use Rattle.l2_node.specs.Building.{visited, loaded, built_by, built, visit}
use Rattle.l2_node.specs.End.{End, fresh, with_channel, with_bearer, with_visits}
use Rattle.l2_node.specs.Hearing.{expired}
use Rattle.l2_node.specs.Submitting.{submitted, discarding}
use Rattle.l2_node.specs.Writing.{needs}
use Rattle.law_node.specs.Calls.{Turn, Call, SetVisits, SetReports, Add, Submit, SetDiscard, Tick, TickBuckets, Visits}
use Rattle.law_node.specs.Calls.{Grants, Granted, Assigned, Pass, Receive, Expire, Move, answered, after, run_end}
use Rattle.law_node.specs.Calls.{reached}
use Rattle.law_node.specs.Calls.{IsGiven, AreGiven}
use Rattle.law_node.specs.Order.{channels, with_one, with_all}
use Rattle.law_node.proofs.Channels.{all_put}
use Rattle.law_node.proofs.Standing.{channels_in, call_channels, moved_buckets}

-- ---- each step of the buckets

none_sound : IsSound no_channels
unfolding no_channels
none_sound = record { channels = sound_none; levels = refl }

abbrev pub IsInRange : Channel → Type 0
IsInRange c = (c.lcid < 11) × (c.group < 4)

lcid_below : (k : Kind) (lcid : ℕ) → IsChannelOf k lcid → lcid < 11
lcid_below Tm lcid h = omega (arith, h)
lcid_below Srb lcid h = omega (arith, h.1)
lcid_below Um lcid h = omega (arith, h.1)
lcid_below Am lcid h = omega (arith, h.1)

with_channel_by : (c : Channel) (b : Bucketed) (t : Bool) → has c.lcid b.channels ≡ t → c.lcid < 11 → c.group < 4
    → IsSound b → IsSound (with_channel c b)
unfolding added
with_channel_by c b true e lt four s = rw e s
with_channel_by c b false e lt four s =
    rw e (record { channels = sound_more c b.channels (place c b.channels) s.channels lt four e; levels = s.levels })

grown_length : (cs : List Channel) (levels : List ℕ) → length (all_grown cs levels) ≡ length levels
grown_length [] levels = refl
grown_length (c ∷ cs) levels =
    let one = grown c.pbr c.bucket (get_or levels c.lcid 0) in
    grown_length cs (set levels c.lcid one) ∙ length-set levels c.lcid one

ticked_sound : (b : Bucketed) → IsSound b → IsSound (ticked b)
unfolding ticked
ticked_sound b s = record { channels = s.channels; levels = grown_length b.channels b.levels ∙ s.levels }

one_length : (cs : List Channel) (needs : List ℕ) (g : Giving) → length (round_one cs needs g).levels ≡ length g.levels
one_length [] needs g = refl
one_length (c ∷ cs) wanted g =
    let x = first_part c wanted g in
    one_length cs wanted (first_given c x g) ∙ length-set g.levels c.lcid (fallen c.pbr (get_or g.levels c.lcid 0) x)

two_length : (cs : List Channel) (needs : List ℕ) (g : Giving) → length (round_two cs needs g).levels ≡ length g.levels
two_length [] needs g = refl
two_length (c ∷ cs) needs g = two_length cs needs (second_given c (second_part c needs g) g)

allotted_sound : (b : Bucketed) (needs : List ℕ) (grant : ℕ) → IsSound b → IsSound (after_allot b needs grant)
unfolding after_allot shared first_shared
allotted_sound b needs grant s = record {
  channels = s.channels;
  levels = two_length b.channels needs (round_one b.channels needs (ungiven b grant))
      ∙ one_length b.channels needs (ungiven b grant) ∙ s.levels;
}

-- ---- each call

pub visited_sound : (tti : ℕ) (order : Order) (e : End) → IsSound e.buckets → IsSound (visited tti order e).buckets
unfolding visited
visited_sound tti order e s = s

loaded_sound : (tti grant : ℕ) (e : End) → IsSound e.buckets → IsSound (loaded tti grant e).buckets
unfolding loaded
loaded_sound tti grant e s = allotted_sound e.buckets (needs e grant) (grant + 2) s

turn_sound : (v : Visit) (t : Turn) (e : End) → IsSound e.buckets
    → IsSound (answered v t (built_by v t.tti t.grant e)).buckets
turn_sound New t e s = loaded_sound t.tti t.grant e s
turn_sound (Resend rv) t e s = s
turn_sound Silent t e s = s

one_sound : (t : Bool) (c : Channel) (cs : List Channel) → has c.lcid cs ≡ t → IsInRange c → AreSound cs
    → AreSound (with_one c cs)
one_sound true c cs e r s = rw e s
one_sound false c cs e r s = rw e (sound_more c cs (place c cs) s r.0 r.1 e)

all_sound : (ds cs : List Channel) → AllByRecursion IsInRange ds → AreSound cs → AreSound (with_all ds cs)
all_sound [] cs a s = s
all_sound (d ∷ ds) cs a s = all_sound ds (with_one d cs) a.1 (one_sound (has d.lcid cs) d cs refl a.0 s)

moved_sound : (e : End) (keys : Keys) → AllByRecursion IsInRange (channels e.bearers)
    → IsSound (after e (Move keys)).buckets
moved_sound e keys a =
    subst IsSound (sym (moved_buckets e keys))
    (record { channels = all_sound (channels e.bearers) [] a sound_none; levels = refl })

call_sound : (e : End) (c : Call) → IsGiven c → AllByRecursion IsInRange (channels e.bearers) → IsSound e.buckets
    → IsSound (after e c).buckets
unfolding with_visits with_bearer submitted discarding expired built
call_sound e (SetVisits maximum) g a s = s
call_sound e (SetReports reports) g a s = s
call_sound e (Add c keys) g a s =
    with_channel_by c.channel e.buckets (has c.channel.lcid e.buckets.channels) refl
    (lcid_below c.kind c.channel.lcid g.lcid) (omega (arith, g.group)) s
call_sound e (Submit lcid sdu) g a s = s
call_sound e (SetDiscard lcid ttis) g a s = s
call_sound e Tick g a s = s
call_sound e TickBuckets g a s = ticked_sound e.buckets s
call_sound e (Visits t) g a s =
    turn_sound (visit t.tti t.order e) t (visited t.tti t.order e) (visited_sound t.tti t.order e s)
call_sound e (Grants tti) g a s = s
call_sound e (Granted tti good) g a s = s
call_sound e (Assigned tti ndi good) g a s = s
call_sound e (Pass tti) g a s = s
call_sound e (Receive block) g a s = s
call_sound e (Expire lcid clock) g a s = s
call_sound e (Move keys) g a s = moved_sound e keys a

ranges_in : (c : Call) (cs : List Channel) → IsGiven c → AllByRecursion IsInRange cs
    → AllByRecursion IsInRange (channels_in c cs)
ranges_in (Add c keys) cs g a =
    all_put IsInRange c.channel cs (lcid_below c.kind c.channel.lcid g.lcid, omega (arith, g.group)) a
ranges_in (SetVisits maximum) cs g a = a
ranges_in (SetReports reports) cs g a = a
ranges_in (Submit lcid octets) cs g a = a
ranges_in (SetDiscard lcid ttis) cs g a = a
ranges_in Tick cs g a = a
ranges_in TickBuckets cs g a = a
ranges_in (Visits t) cs g a = a
ranges_in (Grants tti) cs g a = a
ranges_in (Granted tti good) cs g a = a
ranges_in (Assigned tti ndi good) cs g a = a
ranges_in (Pass tti) cs g a = a
ranges_in (Receive block) cs g a = a
ranges_in (Expire lcid clock) cs g a = a
ranges_in (Move keys) cs g a = a

-- the channels of an end, and of its bearers, are in their ranges
pub record HasSoundChannels (e : End) : Type 0 where
  pub buckets_are : IsSound e.buckets
  pub bearers_are : AllByRecursion IsInRange (channels e.bearers)

pub call_channels_sound : (e : End) (c : Call) → IsGiven c → HasSoundChannels e → HasSoundChannels (after e c)
call_channels_sound e c g s = record {
  buckets_are = call_sound e c g s.bearers_are s.buckets_are;
  bearers_are = subst (AllByRecursion IsInRange) (sym (call_channels e c))
      (ranges_in c (channels e.bearers) g s.bearers_are);
}

run_channels_sound : (cs : List Call) (e : End) → AreGiven cs → HasSoundChannels e → HasSoundChannels (run_end cs e)
run_channels_sound [] e g s = s
run_channels_sound (c ∷ cs) e g s = run_channels_sound cs (after e c) g.1 (call_channels_sound e c g.0 s)

pub fresh_channels_sound : (side : Side) (maximum : ℕ) (reports : Bool)
    → HasSoundChannels (fresh side maximum reports)
unfolding fresh
fresh_channels_sound side maximum reports = record { buckets_are = none_sound; bearers_are = tt }

pub reached_channels_sound : (side : Side) (maximum : ℕ) (reports : Bool) (calls : List Call) → AreGiven calls
    → HasSoundChannels (reached side maximum reports calls)
reached_channels_sound side maximum reports calls g =
    run_channels_sound calls (fresh side maximum reports) g (fresh_channels_sound side maximum reports)

pub reached_sound : (side : Side) (maximum : ℕ) (reports : Bool) (calls : List Call) → AreGiven calls
    → IsSound (reached side maximum reports calls).buckets
reached_sound side maximum reports calls g = (reached_channels_sound side maximum reports calls g).buckets_are

-- an end that has visited a process
pub visiting_sound : (side : Side) (maximum : ℕ) (reports : Bool) (calls : List Call) (tti : ℕ) (order : Order)
    → AreGiven calls → IsSound (visited tti order (reached side maximum reports calls)).buckets
visiting_sound side maximum reports calls tti order g =
    visited_sound tti order (reached side maximum reports calls) (reached_sound side maximum reports calls g)
