-- Each bearer of an end is known as what it is, so that what shows a new block shows the PDUs that are told of.
use Rattle.std.proofs.Common.{◌≡◌, ◌<◌, ◌≤◌, ℕ, ◌==◌, Bool, true, false, if◌then◌else◌, Option, Some, None, List, []}
use Rattle.std.proofs.Common.{◌∷◌, ◌++◌, length, get_or-set_same, get_or-set_other, refl, ap, sym, subst, ◌∙◌, arith}
use Rattle.std.proofs.Common.{inl, inr}
use Rattle.std.specs.Prelude.{slice_index_or, unwrap_or}
use Rattle.std.specs.List.{filter}
use Rattle.std.proofs.Math.ListN.{length-set}
use Rattle.std.proofs.lemmas.Bool.Decides.{nat_tests}
use Rattle.air_record.specs.declared.record.Record.{Record}
use Rattle.bearer.specs.Bearer.{flow_of}
use Rattle.bearer_types.specs.Configs.{IsChannelOf, IsConfig}
use Rattle.bearer_types.specs.declared.config.BearerConfig.{BearerConfig}
use Rattle.bearer.specs.Acknowledged.State.{fresh as fresh_am}
use Rattle.bearer_pdcp.specs.Ends.{begun as begun_pdcp}
use Rattle.bearer.specs.Unacknowledged.State.{fresh as fresh_um}
use Rattle.eps_sec.specs.declared.Keys.{Keys}
use Rattle.harq.specs.declared.sender.Order.{Order}
use Rattle.harq.specs.declared.sender.Visit.{Visit}
use Rattle.harq.specs.declared.sender.Visit.TheVariants.{New, Resend, Silent}
use Rattle.l2_node.specs.Building.{IsEnough, visit, visited}
use Rattle.l2_node.specs.End.{End, fresh as fresh_end}
use Rattle.l2_node.specs.Finding.{has}
use Rattle.l2_types.specs.declared.channel.Kind.{Kind}
use Rattle.l2_types.specs.declared.channel.Kind.TheVariants as kinds
use Rattle.l2_types.specs.declared.side.Side.{Side}
use Rattle.law_run.specs.AnyCalls.Ends.{begins_life, LivesOn, built_told, visit_told}
use Rattle.promises.specs.Blocks.{with_bearer, MayShow}
use Rattle.promises.specs.Shown.{mode_in, IsKnownAs, AreKnown}
use Rattle.law_run.proofs.AnyCalls.Blocks.{some_by}
use Rattle.law_run.proofs.AnyCalls.Going.{lives_then}
use Rattle.law_run.proofs.AnyCalls.Named.{blocks_are_shown}
use Rattle.law_node.specs.Bearers.{adds, AddNone, IsAdded}
use Rattle.law_node.specs.Calls.{Call, SetVisits, SetReports, Add, Submit, SetDiscard, Tick, TickBuckets, Visits}
use Rattle.law_node.specs.Calls.{Grants, Granted, Assigned, Pass, Receive, Expire, Move, IsGiven, AreGiven, reached}
use Rattle.law_node.specs.Holding.{flow}
use Rattle.law_node.specs.Names.{mode, modes_of}
use Rattle.promises.specs.Names.{Mode}
use Rattle.law_node.proofs.Living.{are_added}
use Rattle.pdu_show.specs.Kinds.{layout_of, none_known}
use Rattle.pdu_show.specs.declared.kinds.Layout.{Layout}
use Rattle.law_run.proofs.Modes.{keeps_mode}

-- ---- how PDUs are shown behind calls of an end: by the bearers that they add

abbrev pub kinds_in : Call → List (Option Layout) → List (Option Layout)
kinds_in (Add config keys) ks = with_bearer config ks
kinds_in call ks = ks

abbrev pub kinds_over : List Call → List (Option Layout) → List (Option Layout)
kinds_over [] ks = ks
kinds_over (c ∷ cs) ks = kinds_over cs (kinds_in c ks)

over_then : (xs ys : List Call) (ks : List (Option Layout))
    → kinds_over (xs ++ ys) ks ≡ kinds_over ys (kinds_over xs ks)
over_then [] ys ks = refl
over_then (x ∷ xs) ys ks = over_then xs ys (kinds_in x ks)

-- only the calls count with which lives begin
over_lives : (cs : List Call) (ks : List (Option Layout)) → kinds_over (filter begins_life cs) ks ≡ kinds_over cs ks
over_lives [] ks = refl
over_lives (Add config keys ∷ cs) ks = over_lives cs (with_bearer config ks)
over_lives (SetVisits maximum ∷ cs) ks = over_lives cs ks
over_lives (SetReports reports ∷ cs) ks = over_lives cs ks
over_lives (Submit l octets ∷ cs) ks = over_lives cs ks
over_lives (SetDiscard l ttis ∷ cs) ks = over_lives cs ks
over_lives (Tick ∷ cs) ks = over_lives cs ks
over_lives (TickBuckets ∷ cs) ks = over_lives cs ks
over_lives (Visits t ∷ cs) ks = over_lives cs ks
over_lives (Grants tti ∷ cs) ks = over_lives cs ks
over_lives (Granted tti good ∷ cs) ks = over_lives cs ks
over_lives (Assigned tti ndi good ∷ cs) ks = over_lives cs ks
over_lives (Pass tti ∷ cs) ks = over_lives cs ks
over_lives (Receive block ∷ cs) ks = over_lives cs ks
over_lives (Expire l clock ∷ cs) ks = over_lives cs ks
over_lives (Move keys ∷ cs) ks = over_lives cs ks

-- ---- the place of a channel

-- a call that adds no bearer of a channel leaves how it is shown; and each leaves the count of places
record Leaves (c : Call) (ks : List (Option Layout)) : Type 0 where
  long : length (kinds_in c ks) ≡ length ks
  same : (lcid : ℕ) → adds lcid c ≡ false → slice_index_or (kinds_in c ks) lcid None ≡ slice_index_or ks lcid None

untouched : (c : Call) (ks : List (Option Layout)) → kinds_in c ks ≡ ks → Leaves c ks
untouched c ks e =
    record { long = ap length e; same = λ lcid free. ap (λ (x : List (Option Layout)). slice_index_or x lcid None) e }

apart : (n l : ℕ) → (n == l) ≡ false → l ≡ n → ⊥
apart n l e same = let test : (n == l) ≡ true = grind (arith, nat_tests) in let no : true ≡ false = sym test ∙ e in cc

leaves : (c : Call) (ks : List (Option Layout)) → Leaves c ks
leaves (Add config keys) ks =
    let here = Some (layout_of config.kind config.rlc_bits config.pdcp_bits) in
    record {
      long = length-set ks config.channel.lcid here;
      same = λ lcid free. get_or-set_other ks config.channel.lcid lcid here None (apart config.channel.lcid lcid free);
    }
leaves (SetVisits maximum) ks = untouched (SetVisits maximum) ks refl
leaves (SetReports reports) ks = untouched (SetReports reports) ks refl
leaves (Submit l octets) ks = untouched (Submit l octets) ks refl
leaves (SetDiscard l ttis) ks = untouched (SetDiscard l ttis) ks refl
leaves Tick ks = untouched Tick ks refl
leaves TickBuckets ks = untouched TickBuckets ks refl
leaves (Visits t) ks = untouched (Visits t) ks refl
leaves (Grants tti) ks = untouched (Grants tti) ks refl
leaves (Granted tti good) ks = untouched (Granted tti good) ks refl
leaves (Assigned tti ndi good) ks = untouched (Assigned tti ndi good) ks refl
leaves (Pass tti) ks = untouched (Pass tti) ks refl
leaves (Receive block) ks = untouched (Receive block) ks refl
leaves (Expire l clock) ks = untouched (Expire l clock) ks refl
leaves (Move keys) ks = untouched (Move keys) ks refl

over_long : (cs : List Call) (ks : List (Option Layout)) → length (kinds_over cs ks) ≡ length ks
over_long [] ks = refl
over_long (c ∷ cs) ks = over_long cs (kinds_in c ks) ∙ (leaves c ks).long

over_same : (lcid : ℕ) (cs : List Call) (ks : List (Option Layout)) → AddNone lcid cs
    → slice_index_or (kinds_over cs ks) lcid None ≡ slice_index_or ks lcid None
over_same lcid [] ks free = refl
over_same lcid (c ∷ cs) ks free = over_same lcid cs (kinds_in c ks) free.1 ∙ (leaves c ks).same lcid free.0

-- ---- each bearer of an end is known as what it is

pub has_place : (kind : Kind) (lcid : ℕ) → IsChannelOf kind lcid → lcid < 11
has_place kinds.Tm lcid i = omega (arith, i)
has_place kinds.Srb lcid i = omega (arith, i.1)
has_place kinds.Um lcid i = omega (arith, i.1)
has_place kinds.Am lcid i = omega (arith, i.1)

-- as it is configured
known_first : (kind : Kind) (config : BearerConfig) (keys : Keys) (side : Side)
    → mode_in (layout_of kind config.rlc_bits config.pdcp_bits) ≡ mode (flow_of kind config keys side)
unfolding fresh_um fresh_am begun_pdcp
known_first kinds.Tm config keys side = refl
known_first kinds.Srb config keys side = refl
known_first kinds.Um config keys side = refl
known_first kinds.Am config keys side = refl

given_at : (xs : List Call) (c : Call) (ys : List Call) → AreGiven (xs ++ c ∷ ys) → IsGiven c
given_at [] c ys g = g.0
given_at (x ∷ xs) c ys g = given_at xs c ys g.1

one_known : (side : Side) (maximum : ℕ) (reports : Bool) (calls : List Call) (lcid : ℕ) → AreGiven calls
    → IsAdded side maximum reports calls lcid
    → IsKnownAs (slice_index_or (kinds_over calls none_known) lcid None)
    (mode (flow lcid (reached side maximum reports calls)))
one_known side maximum reports calls lcid g k =
    let config = k.config in
    let begun = Add config k.keys in
    let past = kinds_over k.before none_known in
    let layout = layout_of config.kind config.rlc_bits config.pdcp_bits in
    let given : IsConfig config = given_at k.before begun k.since (subst AreGiven k.calls_are g) in
    let long : length past ≡ 11 = over_long k.before none_known in
    let fits = has_place config.kind config.channel.lcid given.lcid in
    let here : slice_index_or (with_bearer config past) lcid None ≡ Some layout =
    subst (λ (n : ℕ). slice_index_or (with_bearer config past) n None ≡ Some layout) k.channel_is
    (get_or-set_same past config.channel.lcid (Some layout) None (omega (arith, fits, long))) in
    let is : slice_index_or (kinds_over calls none_known) lcid None ≡ Some layout =
    ap (λ (cs : List Call). slice_index_or (kinds_over cs none_known) lcid None) k.calls_are
    ∙ ap (λ (x : List (Option Layout)). slice_index_or x lcid None) (over_then k.before (begun ∷ k.since) none_known)
    ∙ over_same lcid k.since (with_bearer config past) k.last ∙ here in
    let same : mode_in layout ≡ mode (flow lcid (reached side maximum reports calls)) =
    known_first config.kind config k.keys side
    ∙ sym (keeps_mode k.comes.steps (flow_of config.kind config k.keys side)) ∙ sym (ap mode k.comes.flow_is) in
    subst (λ (x : Option Layout). IsKnownAs x (mode (flow lcid (reached side maximum reports calls)))) (sym is) same

known_if : (b : Bool) (e : End) (lcid : ℕ) (layout : Option Layout) (m : Mode) → has lcid e.bearers ≡ b
    → modes_of e lcid ≡ Some m → (has lcid e.bearers ≡ true → IsKnownAs layout (mode (flow lcid e)))
    → IsKnownAs layout m
known_if true e lcid layout m h is known =
    let all : (if has lcid e.bearers then Some (mode (flow lcid e)) else None) ≡ Some (mode (flow lcid e)) =
    ap (λ (b : Bool). if b then Some (mode (flow lcid e)) else None) h in
    let same : mode (flow lcid e) ≡ m = ap (λ (o : Option Mode). unwrap_or o (mode (flow lcid e))) (sym all ∙ is) in
    subst (λ (x : Mode). IsKnownAs layout x) same (known h)
known_if false e lcid layout m h is known =
    let all : (if has lcid e.bearers then Some (mode (flow lcid e)) else None) ≡ None =
    ap (λ (b : Bool). if b then Some (mode (flow lcid e)) else None) h in
    let no : None ≡ Some m = sym all ∙ is in
    cc

all_known : (side : Side) (maximum : ℕ) (reports : Bool) (calls : List Call) → AreGiven calls
    → AreKnown (kinds_over calls none_known) (modes_of (reached side maximum reports calls))
all_known side maximum reports calls g lcid m is =
    let e = reached side maximum reports calls in
    known_if (has lcid e.bearers) e lcid (slice_index_or (kinds_over calls none_known) lcid None) m refl is
    (λ (h : has lcid e.bearers ≡ true). one_known side maximum reports calls lcid g
    (are_added side maximum reports calls lcid g h))

visiting_known : (ks : List (Option Layout)) (t : ℕ) (order : Order) (e : End) → AreKnown ks (modes_of e)
    → AreKnown ks (modes_of (visited t order e))
unfolding visited
visiting_known ks t order e known = known

-- ---- what is told of a visit

visit_shows : (w : Visit) (side : Side) (maximum : ℕ) (reports : Bool) (calls : List Call) → AreGiven calls
    → (t grant : ℕ) (order : Order) → grant ≤ 9422 → IsEnough order grant
    → visit t order (reached side maximum reports calls) ≡ w
    → MayShow side t grant (kinds_over calls none_known)
    (built_told w side t grant order (kinds_over calls none_known) (reached side maximum reports calls))
visit_shows New side maximum reports calls g t grant order within enough is =
    let ks = kinds_over calls none_known in
    let e = reached side maximum reports calls in
    inr (blocks_are_shown side maximum reports calls g t grant order ks (some_by t grant order e enough is) within is
    (visiting_known ks t order e (all_known side maximum reports calls g)))
visit_shows (Resend rv) side maximum reports calls g t grant order within enough is = inl refl
visit_shows Silent side maximum reports calls g t grant order within enough is = inl refl

-- ---- an end as it comes from the beginning on

-- what is told of it, and how PDUs are shown: by its bearers
pub record IsCome (side : Side) (told : List Record) (ks : List (Option Layout)) (e : End) : Type 0 where
  pub lives : List Call
  pub on : LivesOn lives side told (fresh_end side 4 false) e
  pub kinds_are : kinds_over lives none_known ≡ ks

pub come_then : (lives : List Call) (side : Side) (told more : List Record) (ks : List (Option Layout)) (e f : End)
    → IsCome side told ks e → LivesOn lives side more e f → IsCome side (told ++ more) (kinds_over lives ks) f
come_then lives side told more ks e f c o = record {
  lives = c.lives ++ lives;
  on = lives_then c.lives lives side told more (fresh_end side 4 false) e f c.on o;
  kinds_are = over_then c.lives lives none_known ∙ ap (kinds_over lives) c.kinds_are;
}

pub come_shows : (side : Side) (told : List Record) (ks : List (Option Layout)) (e : End) → IsCome side told ks e
    → (t grant : ℕ) (order : Order) → grant ≤ 9422 → IsEnough order grant
    → MayShow side t grant ks (visit_told side t grant order ks e)
come_shows side told ks e c t grant order within enough =
    let calls = c.on.by.calls in
    let are : kinds_over calls none_known ≡ ks = sym (over_lives calls none_known)
    ∙ ap (λ (cs : List Call). kinds_over cs none_known) c.on.lives_are ∙ c.kinds_are in
    subst (λ (x : End). MayShow side t grant ks (visit_told side t grant order ks x)) (sym c.on.by.end_is)
    (subst (λ (x : List (Option Layout)). MayShow side t grant x
    (visit_told side t grant order x (reached side 4 false calls))) are
    (visit_shows (visit t order (reached side 4 false calls)) side 4 false calls c.on.by.given t grant order within
    enough refl))
