-- The channels of an end stay through its calls, but where a bearer is added.
use Rattle.std.proofs.Common.{◌≡◌, ℕ, ◌==◌, nat_lt, Bool, true, false, List, [], ◌∷◌, map, refl, ap, sym}
use Rattle.std.proofs.Common.{subst, ◌∙◌, arith}
use Rattle.std.proofs.lemmas.Bool.Decides.{nat_tests}
use Rattle.std.specs.List.{filter}
use Rattle.bearer.specs.Bearer.{Of, Life}
use Rattle.bearer_types.specs.declared.config.BearerConfig.{BearerConfig}
use Rattle.eps_sec.specs.declared.Keys.{Keys}
use Rattle.l2_node.specs.End.{End}
use Rattle.l2_node.specs.Finding.{has}
use Rattle.l2_types.specs.declared.channel.Channel.{Channel}
use Rattle.l2_types.specs.declared.side.Side.{Side}
use Rattle.law_node.specs.Calls.{Call as EndCall, SetVisits, SetReports, Add, Submit, SetDiscard, Tick}
use Rattle.law_node.specs.Calls.{TickBuckets, Visits, Grants, Granted, Assigned, Pass, Receive, Expire, Move}
use Rattle.law_node.specs.Calls.{after as after_call, run_end}
use Rattle.law_node.specs.Order.{AddNew, channels}
use Rattle.law_node.proofs.Channels.{put_by_lcid}
use Rattle.law_node.proofs.Standing.{channels_in as bearers_in, call_channels as call_bearers, shared_in, call_shared}
use Rattle.law_node.proofs.Standing.{OwnsChannels, call_own, run_own}
use Rattle.prioritise.specs.Channels.{has as has_channel, lcids}
use Rattle.air_record.specs.declared.record.Record.{Record}
use Rattle.law_run.specs.AnyCalls.Ends.{begins_life, LivesOn}
use Rattle.law_run.specs.AnyCalls.Order.{channels_of}
use Rattle.promises.specs.Order.{Channels, with_lcid, with_channel}

bearers_lcids : (bs : List (Of Life)) → map (λ b. b.channel.lcid) bs ≡ lcids (channels bs)
bearers_lcids [] = refl
bearers_lcids (b ∷ bs) = ap (λ (ls : List ℕ). b.channel.lcid ∷ ls) (bearers_lcids bs)

put_by : (t : Bool) (d c : Channel) (cs : List Channel) → nat_lt c.lcid d.lcid ≡ t
    → lcids (put_by_lcid d cs) ≡ with_lcid d.lcid (lcids cs)
    → lcids (put_by_lcid d (c ∷ cs)) ≡ with_lcid d.lcid (lcids (c ∷ cs))
put_by true d c cs e ih = rw e (ap (λ (ls : List ℕ). c.lcid ∷ ls) ih)
put_by false d c cs e ih = rw e refl

put_lcids : (d : Channel) (cs : List Channel) → lcids (put_by_lcid d cs) ≡ with_lcid d.lcid (lcids cs)
put_lcids d [] = refl
put_lcids d (c ∷ cs) = put_by (nat_lt c.lcid d.lcid) d c cs refl (put_lcids d cs)

-- a bearer is there
flips : (x y : ℕ) → (x == y) ≡ (y == x)
flips x y = grind (arith, nat_tests)

known_by : (t : Bool) (l : ℕ) (b : Of Life) (bs : List (Of Life)) → (b.channel.lcid == l) ≡ t
    → (l == b.channel.lcid) ≡ t → has l bs ≡ has_channel l (channels bs)
    → has l (b ∷ bs) ≡ has_channel l (channels (b ∷ bs))
known_by true l b bs e f rest = rw (e, f) (grind (arith, nat_tests))
known_by false l b bs e f rest = rw (e, f) (grind (arith, nat_tests, rest))

pub known_channel : (l : ℕ) (bs : List (Of Life)) → has l bs ≡ has_channel l (channels bs)
known_channel l [] = refl
known_channel l (b ∷ bs) =
    known_by (b.channel.lcid == l) l b bs refl (flips l b.channel.lcid) (known_channel l bs)

-- of lists of channels
abbrev of_lists : List Channel → List Channel → Channels
of_lists shared own = record { by_priority = shared; by_lcid = lcids own }

of_its_lists : (e : End) → channels_of e ≡ of_lists e.buckets.channels (channels e.bearers)
of_its_lists e =
    ap (λ (ls : List ℕ). record { by_priority = e.buckets.channels; by_lcid = ls }) (bearers_lcids e.bearers)

-- ---- any call

abbrev pub channels_in : EndCall → Channels → Channels
channels_in (Add config keys) c = with_channel config.channel c
channels_in call c = c

behind_call : (e : End) (c : EndCall)
    → channels_of (after_call e c)
    ≡ of_lists (shared_in c e.bearers e.buckets.channels) (bearers_in c (channels e.bearers))
behind_call e c =
    of_its_lists (after_call e c)
    ∙ ap (λ (cs : List Channel). of_lists cs (channels (after_call e c).bearers)) (call_shared e c)
    ∙ ap (of_lists (shared_in c e.bearers e.buckets.channels)) (call_bearers e c)

-- one that adds a bearer
pub added_channels : (e : End) (config : BearerConfig) (keys : Keys)
    → channels_of (after_call e (Add config keys)) ≡ with_channel config.channel (channels_of e)
added_channels e config keys =
    let d = config.channel in
    behind_call e (Add config keys)
    ∙ ap (λ (ls : List ℕ). record { by_priority = (with_channel d (channels_of e)).by_priority; by_lcid = ls })
    (put_lcids d (channels e.bearers) ∙ ap (with_lcid d.lcid) (sym (bearers_lcids e.bearers)))

-- one with which no life begins
pub same_channels : (e : End) (c : EndCall) → begins_life c ≡ false → channels_of (after_call e c) ≡ channels_of e
same_channels e (Add config keys) stays = absurd cc
same_channels e (Move keys) stays = absurd cc
same_channels e (SetVisits maximum) stays = behind_call e (SetVisits maximum) ∙ sym (of_its_lists e)
same_channels e (SetReports reports) stays = behind_call e (SetReports reports) ∙ sym (of_its_lists e)
same_channels e (Submit lcid octets) stays = behind_call e (Submit lcid octets) ∙ sym (of_its_lists e)
same_channels e (SetDiscard lcid ttis) stays = behind_call e (SetDiscard lcid ttis) ∙ sym (of_its_lists e)
same_channels e Tick stays = behind_call e Tick ∙ sym (of_its_lists e)
same_channels e TickBuckets stays = behind_call e TickBuckets ∙ sym (of_its_lists e)
same_channels e (Visits t) stays = behind_call e (Visits t) ∙ sym (of_its_lists e)
same_channels e (Grants tti) stays = behind_call e (Grants tti) ∙ sym (of_its_lists e)
same_channels e (Granted tti good) stays = behind_call e (Granted tti good) ∙ sym (of_its_lists e)
same_channels e (Assigned tti ndi good) stays = behind_call e (Assigned tti ndi good) ∙ sym (of_its_lists e)
same_channels e (Pass tti) stays = behind_call e (Pass tti) ∙ sym (of_its_lists e)
same_channels e (Receive block) stays = behind_call e (Receive block) ∙ sym (of_its_lists e)
same_channels e (Expire lcid clock) stays = behind_call e (Expire lcid clock) ∙ sym (of_its_lists e)

call_channels : (e : End) (c : EndCall) → OwnsChannels e
    → channels_of (after_call e c) ≡ channels_in c (channels_of e)
call_channels e (Add config keys) own = added_channels e config keys
call_channels e (Move keys) own =
    behind_call e (Move keys) ∙ ap (λ (cs : List Channel). of_lists cs (channels e.bearers)) (sym own)
    ∙ sym (of_its_lists e)
call_channels e (SetVisits maximum) own = same_channels e (SetVisits maximum) refl
call_channels e (SetReports reports) own = same_channels e (SetReports reports) refl
call_channels e (Submit lcid octets) own = same_channels e (Submit lcid octets) refl
call_channels e (SetDiscard lcid ttis) own = same_channels e (SetDiscard lcid ttis) refl
call_channels e Tick own = same_channels e Tick refl
call_channels e TickBuckets own = same_channels e TickBuckets refl
call_channels e (Visits t) own = same_channels e (Visits t) refl
call_channels e (Grants tti) own = same_channels e (Grants tti) refl
call_channels e (Granted tti good) own = same_channels e (Granted tti good) refl
call_channels e (Assigned tti ndi good) own = same_channels e (Assigned tti ndi good) refl
call_channels e (Pass tti) own = same_channels e (Pass tti) refl
call_channels e (Receive block) own = same_channels e (Receive block) refl
call_channels e (Expire lcid clock) own = same_channels e (Expire lcid clock) refl

-- calls with which no life begins
none_kept : (cs : List EndCall) (e : End) → filter begins_life cs ≡ [] → channels_of (run_end cs e) ≡ channels_of e
none_kept [] e h = refl
none_kept (Add config keys ∷ cs) e h = let no : Add config keys ∷ filter begins_life cs ≡ [] = h in absurd cc
none_kept (Move keys ∷ cs) e h = let no : Move keys ∷ filter begins_life cs ≡ [] = h in absurd cc
none_kept (SetVisits maximum ∷ cs) e h =
    none_kept cs (after_call e (SetVisits maximum)) h ∙ same_channels e (SetVisits maximum) refl
none_kept (SetReports reports ∷ cs) e h =
    none_kept cs (after_call e (SetReports reports)) h ∙ same_channels e (SetReports reports) refl
none_kept (Submit lcid octets ∷ cs) e h =
    none_kept cs (after_call e (Submit lcid octets)) h ∙ same_channels e (Submit lcid octets) refl
none_kept (SetDiscard lcid ttis ∷ cs) e h =
    none_kept cs (after_call e (SetDiscard lcid ttis)) h ∙ same_channels e (SetDiscard lcid ttis) refl
none_kept (Tick ∷ cs) e h =
    none_kept cs (after_call e Tick) h ∙ same_channels e Tick refl
none_kept (TickBuckets ∷ cs) e h =
    none_kept cs (after_call e TickBuckets) h ∙ same_channels e TickBuckets refl
none_kept (Visits t ∷ cs) e h =
    none_kept cs (after_call e (Visits t)) h ∙ same_channels e (Visits t) refl
none_kept (Grants tti ∷ cs) e h =
    none_kept cs (after_call e (Grants tti)) h ∙ same_channels e (Grants tti) refl
none_kept (Granted tti good ∷ cs) e h =
    none_kept cs (after_call e (Granted tti good)) h ∙ same_channels e (Granted tti good) refl
none_kept (Assigned tti ndi good ∷ cs) e h =
    none_kept cs (after_call e (Assigned tti ndi good)) h ∙ same_channels e (Assigned tti ndi good) refl
none_kept (Pass tti ∷ cs) e h =
    none_kept cs (after_call e (Pass tti)) h ∙ same_channels e (Pass tti) refl
none_kept (Receive block ∷ cs) e h =
    none_kept cs (after_call e (Receive block)) h ∙ same_channels e (Receive block) refl
none_kept (Expire lcid clock ∷ cs) e h =
    none_kept cs (after_call e (Expire lcid clock)) h ∙ same_channels e (Expire lcid clock) refl

pub channels_stay : (side : Side) (told : List Record) (e f : End) → LivesOn [] side told e f
    → channels_of f ≡ channels_of e
channels_stay side told e f k = ap channels_of k.by.end_is ∙ none_kept k.by.calls e k.lives_are

-- ---- through calls, of which only those count with which lives begin

abbrev pub channels_over : List EndCall → Channels → Channels
channels_over [] c = c
channels_over (x ∷ xs) c = channels_over xs (channels_in x c)

over_lives : (cs : List EndCall) (c : Channels) → channels_over (filter begins_life cs) c ≡ channels_over cs c
over_lives [] c = refl
over_lives (Add config keys ∷ cs) c = over_lives cs (with_channel config.channel c)
over_lives (SetVisits maximum ∷ cs) c = over_lives cs c
over_lives (SetReports reports ∷ cs) c = over_lives cs c
over_lives (Submit l octets ∷ cs) c = over_lives cs c
over_lives (SetDiscard l ttis ∷ cs) c = over_lives cs c
over_lives (Tick ∷ cs) c = over_lives cs c
over_lives (TickBuckets ∷ cs) c = over_lives cs c
over_lives (Visits t ∷ cs) c = over_lives cs c
over_lives (Grants tti ∷ cs) c = over_lives cs c
over_lives (Granted tti good ∷ cs) c = over_lives cs c
over_lives (Assigned tti ndi good ∷ cs) c = over_lives cs c
over_lives (Pass tti ∷ cs) c = over_lives cs c
over_lives (Receive block ∷ cs) c = over_lives cs c
over_lives (Expire l clock ∷ cs) c = over_lives cs c
over_lives (Move keys ∷ cs) c = over_lives cs c

-- ---- calls of which those that add a bearer add new ones

abbrev pub AreNew : List EndCall → List Channel → Type 0
AreNew [] cs = Unit {0}
AreNew (Add config keys ∷ xs) cs =
    (has_channel config.channel.lcid cs ≡ false) × AreNew xs (put_by_lcid config.channel cs)
AreNew (x ∷ xs) cs = AreNew xs cs

stays_new : (xs : List EndCall) (e : End) (x : EndCall)
    → AreNew (filter begins_life xs) (bearers_in x (channels e.bearers))
    → AreNew (filter begins_life xs) (channels (after_call e x).bearers)
stays_new xs e x n = subst (AreNew (filter begins_life xs)) (sym (call_bearers e x)) n

add_new : (xs : List EndCall) (e : End) → AreNew (filter begins_life xs) (channels e.bearers) → AddNew xs e
add_new [] e n = tt
add_new (Add config keys ∷ xs) e n =
    (n.0, add_new xs (after_call e (Add config keys)) (stays_new xs e (Add config keys) n.1))
add_new (SetVisits maximum ∷ xs) e n =
    (tt, add_new xs (after_call e (SetVisits maximum)) (stays_new xs e (SetVisits maximum) n))
add_new (SetReports reports ∷ xs) e n =
    (tt, add_new xs (after_call e (SetReports reports)) (stays_new xs e (SetReports reports) n))
add_new (Submit lcid octets ∷ xs) e n =
    (tt, add_new xs (after_call e (Submit lcid octets)) (stays_new xs e (Submit lcid octets) n))
add_new (SetDiscard lcid ttis ∷ xs) e n =
    (tt, add_new xs (after_call e (SetDiscard lcid ttis)) (stays_new xs e (SetDiscard lcid ttis) n))
add_new (Tick ∷ xs) e n = (tt, add_new xs (after_call e Tick) (stays_new xs e Tick n))
add_new (TickBuckets ∷ xs) e n = (tt, add_new xs (after_call e TickBuckets) (stays_new xs e TickBuckets n))
add_new (Visits t ∷ xs) e n = (tt, add_new xs (after_call e (Visits t)) (stays_new xs e (Visits t) n))
add_new (Grants tti ∷ xs) e n = (tt, add_new xs (after_call e (Grants tti)) (stays_new xs e (Grants tti) n))
add_new (Granted tti good ∷ xs) e n =
    (tt, add_new xs (after_call e (Granted tti good)) (stays_new xs e (Granted tti good) n))
add_new (Assigned tti ndi good ∷ xs) e n =
    (tt, add_new xs (after_call e (Assigned tti ndi good)) (stays_new xs e (Assigned tti ndi good) n))
add_new (Pass tti ∷ xs) e n = (tt, add_new xs (after_call e (Pass tti)) (stays_new xs e (Pass tti) n))
add_new (Receive block ∷ xs) e n = (tt, add_new xs (after_call e (Receive block)) (stays_new xs e (Receive block) n))
add_new (Expire lcid clock ∷ xs) e n =
    (tt, add_new xs (after_call e (Expire lcid clock)) (stays_new xs e (Expire lcid clock) n))
add_new (Move keys ∷ xs) e n = (tt, add_new xs (after_call e (Move keys)) (stays_new xs e (Move keys) n))

run_channels : (cs : List EndCall) (e : End) → AddNew cs e → OwnsChannels e
    → channels_of (run_end cs e) ≡ channels_over cs (channels_of e)
run_channels [] e n own = refl
run_channels (c ∷ cs) e n own =
    run_channels cs (after_call e c) n.1 (call_own e c n.0 own) ∙ ap (channels_over cs) (call_channels e c own)

news : (lives : List EndCall) (side : Side) (told : List Record) (e f : End) → (k : LivesOn lives side told e f)
    → AreNew lives (channels e.bearers) → AddNew k.by.calls e
news lives side told e f k n =
    add_new k.by.calls e (subst (λ (xs : List EndCall). AreNew xs (channels e.bearers)) (sym k.lives_are) n)

pub channels_go : (lives : List EndCall) (side : Side) (told : List Record) (e f : End) → LivesOn lives side told e f
    → AreNew lives (channels e.bearers) → OwnsChannels e → channels_of f ≡ channels_over lives (channels_of e)
channels_go lives side told e f k n own =
    ap channels_of k.by.end_is ∙ run_channels k.by.calls e (news lives side told e f k n) own
    ∙ sym (over_lives k.by.calls (channels_of e))
    ∙ ap (λ (cs : List EndCall). channels_over cs (channels_of e)) k.lives_are

pub owns_on : (lives : List EndCall) (side : Side) (told : List Record) (e f : End) → LivesOn lives side told e f
    → AreNew lives (channels e.bearers) → OwnsChannels e → OwnsChannels f
owns_on lives side told e f k n own =
    subst OwnsChannels (sym k.by.end_is) (run_own k.by.calls e (news lives side told e f k n) own)
