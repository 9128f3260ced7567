-- What becomes of the flows that the records of a journal tell of.
use Rattle.std.proofs.Common.{◌≡◌, ◌⊎◌, inl, inr, ◌<◌, ℕ, ◌==◌, ◌&&◌, ◌||◌, nat_le, Bool, true, false, Option, Some}
use Rattle.std.proofs.Common.{None, List, [], ◌∷◌, length, get_or-set_same, arith, refl, ap, sym, subst, ◌∙◌}
use Rattle.std.proofs.lemmas.Bool.Decides.{nat_tests}
use Rattle.std.proofs.Math.ListN.{length-set}
use Rattle.law_run.specs.TwoEnds.Lives.{IsAtRest}
use Rattle.law_run.specs.TwoEnds.Shown.{IsShown}
use Rattle.law_run.proofs.TwoEnds.Lives.{added_there, there_by}
use Rattle.air_link.specs.Link.{Link}
use Rattle.air_record.specs.declared.line.Line.{Line}
use Rattle.air_record.specs.declared.line.Line.TheVariants as lines
use Rattle.air_record.specs.declared.record.Record.{Record}
use Rattle.air_run.specs.Playing.{keys_or_none, acted}
use Rattle.air_run.specs.Rules.{accepted}
use Rattle.air_run.specs.Run.{RunState, fresh, behind_line, done}
use Rattle.air_run.specs.Written.{all_seen, noticed, with_um}
use Rattle.air_text.specs.Groups.{Group}
use Rattle.air_text.specs.Ranges.{IsInRange}
use Rattle.bearer_types.specs.Configs.{IsConfig, AreRlcBits, ArePdcpBits, IsChannelOf}
use Rattle.bearer_types.specs.declared.config.BearerConfig.{BearerConfig}
use Rattle.law_deliver.specs.AmFlow.Air.{HasCome}
use Rattle.l2_node.specs.End.{End}
use Rattle.bearer_types.specs.Sides.{sent_by}
use Rattle.l2_node.specs.Finding.{has}
use Rattle.l2_types.specs.declared.channel.Kind.{Kind}
use Rattle.l2_types.specs.declared.channel.Kind.TheVariants as kinds_of
use Rattle.l2_types.specs.declared.side.Side.{Side}
use Rattle.l2_types.specs.declared.side.Side.TheVariants.{Nb}
use Rattle.mac_pdu.specs.declared.item.Direction.{Direction}
use Rattle.mac_pdu.specs.declared.item.Direction.TheVariants.{Down}
use Rattle.law_node.specs.Bearers.{adds}
use Rattle.law_node.specs.Calls.{Call, SetVisits, Add, SetDiscard, IsGiven, after as after_call}
use Rattle.pdcp_pdu.specs.declared.pdu.PdcpKind.TheVariants as pdcp
use Rattle.pdu_show.specs.declared.kinds.Layout.{Layout}
use Rattle.pdu_show.specs.Kinds.{layout_of, with_kind}
use Rattle.um_losses.specs.Flow.{Flow}
use Rattle.um_losses.specs.Losses.{Losses, is_bearer, seen}
use Rattle.um_losses.specs.declared.cursor.Cursor.{Cursor}
use Rattle.um_losses.specs.declared.flow.Happening.{Happening}
use Rattle.um_losses.specs.Records.{passed, change_of}
use Rattle.um_losses.specs.Told.{picked, told_in, all_after, flow_at}
use Rattle.um_losses.proofs.Told.{seen_flow, seen_place, handed_flow, handed_place, bearer_flow, bearer_place}
use Rattle.um_losses.proofs.Told.{bearer_none, bearer_new}
use Rattle.law_deliver.specs.UmGaps.Delivery.{first_flow}
use Rattle.law_deliver.proofs.UmGaps.Acting.{after_then}
use Rattle.promises.specs.Blocks.{kinds, kinds_by}
use Rattle.promises.specs.Delivery.{forges}
use Rattle.law_run.specs.Order.{state_behind, KeepsOrder}
use Rattle.law_run.proofs.Early.{unbegun, is_early}
use Rattle.law_run.proofs.Flowing.{word_of}
use Rattle.law_run.proofs.Past.{link_behind}

-- ---- records are seen

pub all_seen_flow : (d : Direction) (l : ℕ) (out : List Record) (w : Losses) (f : Flow) → flow_at d l w.flows ≡ Some f
    → flow_at d l (all_seen out w).flows ≡ Some (all_after (told_in d l w.cursor out) f)
all_seen_flow d l [] w f e = e
all_seen_flow d l (one ∷ more) w f e =
    let now : List Happening = picked d l (change_of one w.cursor) in
    all_seen_flow d l more (seen one w) (all_after now f) (seen_flow d l one w f e)
    ∙ ap (λ (c : Cursor). Some (all_after (told_in d l c more) (all_after now f))) (seen_place one w)
    ∙ ap (λ (g : Flow). Some g) (sym (after_then now (told_in d l (passed one w.cursor) more) f))

-- ---- what a line says itself

um_flow : (kind : Kind) (c : BearerConfig) (d : Direction) (l : ℕ) (w : Losses) (f : Flow)
    → flow_at d l w.flows ≡ Some f → flow_at d l (with_um kind c w).flows ≡ Some f
um_flow kinds_of.Tm c d l w f e = e
um_flow kinds_of.Srb c d l w f e = e
um_flow kinds_of.Um c d l w f e = bearer_flow d l c.channel.lcid c.rlc_bits c.pdcp_bits w f e
um_flow kinds_of.Am c d l w f e = e

um_place : (kind : Kind) (c : BearerConfig) (w : Losses) → (with_um kind c w).cursor ≡ w.cursor
um_place kinds_of.Tm c w = refl
um_place kinds_of.Srb c w = refl
um_place kinds_of.Um c w = bearer_place c.channel.lcid c.rlc_bits c.pdcp_bits w
um_place kinds_of.Am c w = refl

pub noticed_flow : (line : Line) (k : Link) (d : Direction) (l : ℕ) (w : Losses) (f : Flow) → forges line ≡ false
    → flow_at d l w.flows ≡ Some f → flow_at d l (noticed line k w).flows ≡ Some (all_after (word_of line) f)
noticed_flow (lines.Bearer c options) k d l w f own e = um_flow c.kind c d l w f e
noticed_flow (lines.Handover user rrc integrity) k d l w f own e = handed_flow d l w f e
noticed_flow (lines.Forge side octets) k d l w f own e = absurd cc
noticed_flow line k d l w f own e = e

pub noticed_place : (line : Line) (k : Link) (w : Losses) → forges line ≡ false → (noticed line k w).cursor ≡ w.cursor
noticed_place (lines.Bearer c options) k w own = um_place c.kind c w
noticed_place (lines.Handover user rrc integrity) k w own = handed_place w
noticed_place (lines.Forge side octets) k w own = absurd cc
noticed_place line k w own = refl

-- ---- as long as all lines configured, a channel without a bearer has no flow

was_none : (side : Side) (l : ℕ) (e : End) (c : Call) → adds l c ≡ false → HasCome side e → IsGiven c
    → has l (after_call e c).bearers ≡ false → has l e.bearers ≡ false
was_none side l e c other come g none = by (has l e.bearers) refl
  where
    by : (b : Bool) → has l e.bearers ≡ b → has l e.bearers ≡ false
    by true there = let still : has l (after_call e c).bearers ≡ true =
        there_by false side l e c other come g there in let no : true ≡ false = sym still ∙ none in absurd cc
    by false there = there

um_none : (kind : Kind) (c : BearerConfig) (d : Direction) (l : ℕ) (w : Losses) → (c.channel.lcid == l) ≡ false
    → flow_at d l w.flows ≡ None → flow_at d l (with_um kind c w).flows ≡ None
um_none kinds_of.Tm c d l w apart e = e
um_none kinds_of.Srb c d l w apart e = e
um_none kinds_of.Um c d l w apart e = bearer_none d l c.channel.lcid c.rlc_bits c.pdcp_bits w apart e
um_none kinds_of.Am c d l w apart e = e

bearer_by : (b : Bool) (d : Direction) (l : ℕ) (c : BearerConfig) (keys : _) (k : Link) (w : Losses)
    → (c.channel.lcid == l) ≡ b → IsConfig c → HasCome Nb k.nb → has l (after_call k.nb (Add c keys)).bearers ≡ false
    → (has l k.nb.bearers ≡ false → flow_at d l w.flows ≡ None) → flow_at d l (with_um c.kind c w).flows ≡ None
bearer_by true d l c keys k w is g come none rest = let there = added_there l k.nb (Add c keys) is in
    let no : true ≡ false = sym there ∙ none in absurd cc
bearer_by false d l c keys k w is g come none rest =
    um_none c.kind c d l w is (rest (was_none Nb l k.nb (Add c keys) is come g none))

none_on : (line : Line) (r : RunState) (d : Direction) (l : ℕ) → (accepted line r.rules).begun ≡ false
    → IsAtRest r.link → IsInRange line → r.link.out ≡ [] → has l (behind_line line r).nb.bearers ≡ false
    → (has l r.link.nb.bearers ≡ false → flow_at d l r.losses.flows ≡ None)
    → flow_at d l (done line r).losses.flows ≡ None
unfolding acted accepted Rattle.air_link.specs.Lines.visits Rattle.air_link.specs.Lines.reports
    Rattle.air_link.specs.Lines.bears Rattle.air_link.specs.Lines.discards Rattle.air_link.specs.Lines.listens
none_on (lines.Harq maximum) r d l early h fits nothing none rest =
    ap (λ (out : List Record). flow_at d l (all_seen out r.losses).flows) nothing
    ∙ rest (was_none Nb l r.link.nb (SetVisits maximum) refl h.nb.come fits.some none)
none_on lines.Bsr r d l early h fits nothing none rest =
    ap (λ (out : List Record). flow_at d l (all_seen out r.losses).flows) nothing ∙ rest none
none_on (lines.Keys keys) r d l early h fits nothing none rest =
    ap (λ (out : List Record). flow_at d l (all_seen out r.losses).flows) nothing ∙ rest none
none_on (lines.Bearer c options) r d l early h fits nothing none rest =
    ap (λ (out : List Record). flow_at d l (all_seen out (with_um c.kind c r.losses)).flows) nothing
    ∙ bearer_by (c.channel.lcid == l) d l c (keys_or_none r.rules.keys) r.link r.losses refl fits h.nb.come none rest
none_on (lines.Discard lcid ttis) r d l early h fits nothing none rest =
    ap (λ (out : List Record). flow_at d l (all_seen out r.losses).flows) nothing
    ∙ rest (was_none Nb l r.link.nb (SetDiscard lcid ttis) refl h.nb.come tt none)
none_on (lines.Drx config) r d l early h fits nothing none rest =
    ap (λ (out : List Record). flow_at d l (all_seen out r.losses).flows) nothing ∙ rest none
none_on line r d l early h fits nothing none rest = absurd cc

pub no_flow : (past : List Group) → KeepsOrder past → (state_behind past).rules.begun ≡ false
    → (d : Direction) (l : ℕ) → has l (link_behind past).nb.bearers ≡ false
    → flow_at d l (state_behind past).losses.flows ≡ None
unfolding fresh
no_flow [] order early d l none = refl
no_flow (g ∷ past) (right, order) early d l none =
    let before = unbegun g.line (state_behind past).rules early in
    let e = is_early past order before in
    none_on g.line (state_behind past) d l early e.rest right.in_range e.silent none
    (λ yet. no_flow past order before d l yet)

-- ---- the flow of a bearer that comes

all_three : (x y z : Bool) → x ≡ true → y ≡ true → z ≡ true → (x && y && z) ≡ true
all_three true true z p q r = r
all_three true false z p q r = absurd cc
all_three false y z p q r = absurd cc

rlc_can : (bits : ℕ) → (bits ≡ 5) ⊎ (bits ≡ 10) → ((bits == 5) || (bits == 10)) ≡ true
rlc_can bits (inl e) = ap (λ (n : ℕ). (n == 5) || (n == 10)) e
rlc_can bits (inr e) = ap (λ (n : ℕ). (n == 5) || (n == 10)) e

pdcp_can : (bits : ℕ) → (bits ≡ 7) ⊎ (bits ≡ 12) → ((bits == 7) || (bits == 12)) ≡ true
pdcp_can bits (inl e) = ap (λ (n : ℕ). (n == 7) || (n == 12)) e
pdcp_can bits (inr e) = ap (λ (n : ℕ). (n == 7) || (n == 12)) e

can_be : (kind : Kind) (lcid rlc_bits pdcp_bits : ℕ) → kind ≡ kinds_of.Um → IsChannelOf kind lcid
    → AreRlcBits kind rlc_bits → ArePdcpBits kind pdcp_bits → is_bearer lcid rlc_bits pdcp_bits ≡ true
can_be kinds_of.Tm lcid rlc_bits pdcp_bits k c r p = absurd cc
can_be kinds_of.Srb lcid rlc_bits pdcp_bits k c r p = absurd cc
can_be kinds_of.Um lcid rlc_bits pdcp_bits k c r p =
    let few = c.1 in
    let le : nat_le lcid 10 ≡ true = grind (arith, nat_tests) in
    all_three (nat_le lcid 10) ((rlc_bits == 5) || (rlc_bits == 10)) ((pdcp_bits == 7) || (pdcp_bits == 12)) le
    (rlc_can rlc_bits r) (pdcp_can pdcp_bits p)
can_be kinds_of.Am lcid rlc_bits pdcp_bits k c r p = absurd cc

um_new : (kind : Kind) (from : Side) (l : ℕ) (c : BearerConfig) (w : Losses) → kind ≡ kinds_of.Um → c.channel.lcid ≡ l
    → is_bearer c.channel.lcid c.rlc_bits c.pdcp_bits ≡ true → flow_at Down c.channel.lcid w.flows ≡ None
    → flow_at (sent_by from) c.channel.lcid w.flows ≡ None
    → flow_at (sent_by from) l (with_um kind c w).flows ≡ Some (first_flow from l c)
um_new kinds_of.Tm from l c w k q can none e = absurd cc
um_new kinds_of.Srb from l c w k q can none e = absurd cc
um_new kinds_of.Um from l c w k q can none e =
    subst (λ (n : ℕ). flow_at (sent_by from) n (with_um kinds_of.Um c w).flows ≡ Some (first_flow from n c)) q
    (bearer_new (sent_by from) c.channel.lcid c.rlc_bits c.pdcp_bits w can none e)
um_new kinds_of.Am from l c w k q can none e = absurd cc

pub new_flow : (from : Side) (c : BearerConfig) (w : Losses) → c.kind ≡ kinds_of.Um → IsConfig c
    → ((d : Direction) → flow_at d c.channel.lcid w.flows ≡ None)
    → flow_at (sent_by from) c.channel.lcid (with_um c.kind c w).flows ≡ Some (first_flow from c.channel.lcid c)
new_flow from c w k g none =
    um_new c.kind from c.channel.lcid c w k refl
    (can_be c.kind c.channel.lcid c.rlc_bits c.pdcp_bits k g.lcid g.rlc_bits g.pdcp_bits) (none Down)
    (none (sent_by from))

-- ---- how PDUs are shown

pub kinds_long : (past : List Group) → length (kinds past) ≡ 11
kinds_long [] = refl
kinds_long (g ∷ past) = by g.line (kinds past) ∙ kinds_long past
  where
    by : (line : Line) (ks : List (Option Layout)) → length (kinds_by line ks) ≡ length ks
    by (lines.Bearer c options) ks = length-set ks c.channel.lcid _
    by line ks = refl

-- those of a bearer that comes
pub new_shown : (past : List Group) (c : BearerConfig) (ks : List (Option Layout)) → ks ≡ kinds past
    → c.kind ≡ kinds_of.Um → IsConfig c
    → IsShown c.channel.lcid c.rlc_bits (with_kind ks c.channel.lcid c.kind c.rlc_bits c.pdcp_bits)
new_shown past c ks is k g =
    let l = c.channel.lcid in
    let few = subst (λ (kind : Kind). IsChannelOf kind l) k g.lcid in
    let most = few.1 in
    let long : length ks ≡ 11 = ap length is ∙ kinds_long past in
    let within : l < length ks = omega (arith, most, long) in
    record {
      kind = pdcp.Um c.pdcp_bits;
      is = get_or-set_same ks l (Some (layout_of c.kind c.rlc_bits c.pdcp_bits)) None within
          ∙ ap (λ (kind : Kind). Some (layout_of kind c.rlc_bits c.pdcp_bits)) k;
    }
