-- Behind the groups of every journal the data PDUs that are written carry octets of their own numbers.
use Rattle.std.proofs.Common.{◌≡◌, ℕ, false, Some, List, [], ◌∷◌, ◌++◌, refl, ap}
use Rattle.std.proofs.Common.{sym, subst, ◌∙◌}
use Rattle.air_link.specs.Link.{end_of}
use Rattle.air_record.specs.declared.record.Record.{Record}
use Rattle.air_run.specs.Run.{behind_line}
use Rattle.air_text.specs.Groups.{Group}
use Rattle.bearer.specs.Acknowledged.State.{fresh as fresh_am}
use Rattle.bearer.specs.Bearer.{flow_of}
use Rattle.bearer_types.specs.declared.config.BearerConfig.{BearerConfig}
use Rattle.eps_sec.specs.declared.Keys.{Keys}
use Rattle.l2_node.specs.End.{End}
use Rattle.l2_types.specs.declared.channel.Kind.{Kind}
use Rattle.l2_types.specs.declared.channel.Kind.TheVariants.{Am}
use Rattle.l2_types.specs.declared.side.Side.{Side}
use Rattle.pdcp_pdu.specs.declared.PdcpKind.TheVariants.{Am as AmKind}
use Rattle.law_deliver.specs.AmChannel.Delivery.{HasBegun}
use Rattle.law_deliver.specs.AmChannel.Lives.{lives, end_at}
use Rattle.law_deliver.specs.AmFlow.Air.{Air, outset}
use Rattle.law_deliver.proofs.AmChannel.Delivery.{stands_so}
use Rattle.law_words.specs.Arrivals.{AccountEntry, Account, no_account, account}
use Rattle.promises.specs.Arrival.{entries_in, entries_ended, entries_from}
use Rattle.promises.specs.Configs.{config_of}
use Rattle.promises.specs.OwnPdus.{AreOwn, PdusAreOwn}
use Rattle.law_run.specs.Order.{state_behind, IsRight, KeepsOrder}
use Rattle.law_run.specs.TwoEnds.On.{IsOn}
use Rattle.law_run.proofs.AnyAir.{at_end, line_plays}
use Rattle.law_run.proofs.BearerWalk.{adds_one, Comes, comes, behind_all}
use Rattle.law_run.proofs.OwnPdus.Ends.{OwnsAt, OwnTo, hears_all, steps_to, own_then, account_then}
use Rattle.law_run.proofs.OwnPdus.Sender.{start_owns}
use Rattle.law_run.proofs.Past.{behind, link_behind}
use Rattle.law_run.proofs.TwoEnds.Coming.{same_on}

abbrev told : ℕ → ℕ → Side → List Group → Account
told bits l from past = account (entries_from bits l from past) no_account

-- a channel of acknowledged data, behind groups
record Owning (l bits : ℕ) (from : Side) (past : List Group) : Type 0 where
  own : AreOwn no_account (entries_from bits l from past)
  air : Air
  on : IsOn (link_behind past) air
  at : OwnsAt from l (told bits l from past).rlc.fields (end_of from (link_behind past))

-- ---- a line since

goes_on : (l bits : ℕ) (from : Side) (past : List Group) (g : Group) → IsRight past g → KeepsOrder past
    → adds_one l g.line ≡ false → Owning l bits from past → Owning l bits from (g ∷ past)
goes_on l bits from past g right order other h =
    let k = link_behind past in
    let m = behind_line g.line (state_behind past) in
    let n = link_behind (g ∷ past) in
    let first = entries_from bits l from past in
    let more = entries_ended g.line ++ entries_in bits l from [] g.events in
    let a = told bits l from past in
    let x = line_plays l h.air g.line (state_behind past).rules.keys k (behind past order).nothing right.in_range other
    h.on in
    let air = lives x.steps x.first in
    let on = same_on m n air refl refl refl x.on in
    let is = x.happened_is bits from
    ∙ ap (λ (out : List Record). entries_ended g.line ++ entries_in bits l from [] out) (sym right.events_are) in
    let heard = subst (OwnsAt from l a.rlc.fields) (sym (x.first_is from))
    (hears_all from l a.rlc.fields (x.forged from) (end_of from k) h.at) in
    let w : OwnTo from l a more (end_of from n) = subst (OwnTo from l a more) (at_end from n air on)
    (subst (λ (hs : List AccountEntry). OwnTo from l a hs (end_at from air)) is
    (steps_to from bits l x.steps x.first a x.living heard)) in
    record {
      own = own_then first more no_account h.own w.own;
      air = air;
      on = on;
      at = subst (λ (b : Account). OwnsAt from l b.rlc.fields (end_of from n))
          (sym (account_then first more no_account)) w.at;
    }

-- ---- the line in which its bearers come

fresh_at : (c : BearerConfig) (keys : Keys) (side : Side) (e : End) → c.kind ≡ Am
    → HasBegun side c.channel.lcid c keys e → OwnsAt side c.channel.lcid [] e
unfolding fresh_am
fresh_at c keys side e kind h = record {
  stands = stands_so side c.channel.lcid c keys e h;
  bearer = fresh_am c (AmKind c.pdcp_bits) keys side;
  bearer_is = h.bearer_is ∙ ap (λ (x : Kind). flow_of x c keys side) kind;
  owns = start_owns c.tx;
}

begins : (bits : ℕ) (from : Side) (past : List Group) (c : BearerConfig) → Comes c past → c.kind ≡ Am
    → Owning c.channel.lcid bits from past
begins bits from past c x kind =
    let there = link_behind past in
    let none = sym (x.early.none_happened bits c.channel.lcid from) in
    record {
      own = subst (λ (hs : List AccountEntry). AreOwn no_account hs) none tt;
      air = outset there.nb there.ue;
      on = x.early.rest;
      at = subst (λ (hs : List AccountEntry). OwnsAt from c.channel.lcid (account hs no_account).rlc.fields
          (end_of from there)) none (fresh_at c x.keys from (end_of from there) kind (x.begun from));
    }

-- ---- behind all groups

owning : (l bits : ℕ) (from : Side) (past : List Group) (c : BearerConfig) → KeepsOrder past
    → config_of l past ≡ Some c → c.kind ≡ Am → Owning l bits from past
owning l bits from past c order e kind =
    behind_all (λ n d groups. Owning n bits from groups) (λ d. d.kind ≡ Am)
    (λ groups g d options right keeps kind'. begins bits from _ d (comes groups g d options right keeps) kind')
    (λ n d groups g right keeps other before h. goes_on n bits from groups g right keeps other h) l past c order kind e

pub pdus_are_own : (past : List Group) → KeepsOrder past → PdusAreOwn past
pdus_are_own [] order = tt
pdus_are_own (g ∷ past) (right, order) = (
  λ from lcid config is kind. (owning lcid config.pdcp_bits from (g ∷ past) config (right, order) is kind).own,
  pdus_are_own past order,
)
