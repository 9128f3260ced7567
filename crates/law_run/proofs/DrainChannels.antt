-- The channels of both ends behind groups, by the lines in which their bearers come.
use Rattle.std.proofs.Common.{◌≡◌, ◌≤◌, inl, inr, ℕ, zero, suc, ◌==◌, nat_lt, Bool, true, false, ◌||◌}
use Rattle.std.proofs.Common.{if◌then◌else◌, Option, Some, None, is_some, List, [], ◌∷◌, insert, map, refl, ap, sym}
use Rattle.std.proofs.Common.{subst, ◌∙◌, arith}
use Rattle.std.proofs.lemmas.Bool.Decides.{nat_tests}
use Rattle.std.specs.List.{AllByRecursion, list_any}
use Rattle.air_link.specs.Link.{end_of}
use Rattle.air_record.specs.declared.line.Line.{Line}
use Rattle.air_record.specs.declared.line.Line.TheVariants as lines
use Rattle.air_text.specs.Groups.{Group}
use Rattle.bearer.specs.Bearer.{Of, Life}
use Rattle.bearer_types.specs.Configs.{IsChannelOf, IsConfig}
use Rattle.bearer_types.specs.declared.config.BearerConfig.{BearerConfig}
use Rattle.l2_node.specs.End.{End}
use Rattle.l2_node.specs.Finding.{has}
use Rattle.l2_types.specs.declared.channel.Channel.{Channel}
use Rattle.l2_types.specs.declared.channel.Kind.{Kind}
use Rattle.l2_types.specs.declared.channel.Kind.TheVariants.{Tm, Srb, Um, Am}
use Rattle.l2_types.specs.declared.side.Side.{Side}
use Rattle.l2_types.specs.declared.side.Side.TheVariants.{Nb, Ue}
use Rattle.prioritise.specs.Channels.{has as has_channel, goes_before, place, put}
use Rattle.prioritise.specs.ShareLaws.{IsOneOf}
use Rattle.promises.specs.Configs.{config_by, config_of}
use Rattle.promises.specs.Order.{Channels, with_lcid, with_channel}
use Rattle.promises.specs.Telling.{channels_by, channels}
use Rattle.law_node.specs.Order.{AreOrdered, channels as of_bearers}
use Rattle.law_drain.specs.Sharing.{IsServedFirst}
use Rattle.law_run.specs.AnyCalls.Order.{channels_of}
use Rattle.law_run.proofs.AnyCalls.Channels.{known_channel}
use Rattle.law_run.specs.Order.{IsTransparentFirst, IsRight, KeepsOrder}
use Rattle.law_run.proofs.Past.{link_behind}
use Rattle.law_run.proofs.Standing.{channels_behind}

-- ---- an end has the bearers of its channels

any_lcids : (l : ℕ) (bs : List (Of Life))
    → has_channel l (of_bearers bs) ≡ list_any (λ n. l == n) (map (λ b. b.channel.lcid) bs)
any_lcids l [] = refl
any_lcids l (b ∷ bs) = ap (λ (t : Bool). (l == b.channel.lcid) || t) (any_lcids l bs)

pub has_listed : (l : ℕ) (e : End) → has l e.bearers ≡ list_any (λ n. l == n) (channels_of e).by_lcid
has_listed l e = known_channel l e.bearers ∙ any_lcids l e.bearers

-- ---- a channel more

swapped : (a b c : Bool) → (a || (b || c)) ≡ (b || (a || c))
swapped true true c = refl
swapped true false c = refl
swapped false b c = refl

with_any : (l d : ℕ) (ns : List ℕ) → list_any (λ n. l == n) (with_lcid d ns) ≡ ((l == d) || list_any (λ n. l == n) ns)
with_any l d [] = refl
with_any l d (n ∷ ns) = by (nat_lt n d) (with_any l d ns)
  where
    by : (t : Bool) → list_any (λ n. l == n) (with_lcid d ns) ≡ ((l == d) || list_any (λ n. l == n) ns)
        → list_any (λ n. l == n) (if t then n ∷ with_lcid d ns else d ∷ n ∷ ns)
        ≡ ((l == d) || ((l == n) || list_any (λ n. l == n) ns))
    by true e = ap (λ (t : Bool). (l == n) || t) e ∙ swapped (l == n) (l == d) (list_any (λ n. l == n) ns)
    by false e = refl

insert_has : (l : ℕ) (cs : List Channel) (at : ℕ) (d : Channel)
    → has_channel l (insert cs at d) ≡ ((l == d.lcid) || has_channel l cs)
insert_has l cs zero d = refl
insert_has l [] (suc at) d = refl
insert_has l (c ∷ cs) (suc at) d =
    ap (λ (t : Bool). (l == c.lcid) || t) (insert_has l cs at d)
    ∙ swapped (l == c.lcid) (l == d.lcid) (has_channel l cs)

same_number : (l d : ℕ) → (l == d) ≡ true → l ≡ d
same_number l d e = grind (arith, nat_tests)

-- where there is one already it stays the only one
kept_has : (l : ℕ) (d : Channel) (cs : List Channel) → has_channel d.lcid cs ≡ true
    → has_channel l cs ≡ ((l == d.lcid) || has_channel l cs)
kept_has l d cs there = by (l == d.lcid) refl
  where
    by : (t : Bool) → (l == d.lcid) ≡ t → has_channel l cs ≡ (t || has_channel l cs)
    by true e = ap (λ (n : ℕ). has_channel n cs) (same_number l d.lcid e) ∙ there
    by false e = refl

with_has : (l : ℕ) (d : Channel) (c : Channels) → has_channel l (with_channel d c).by_priority
    ≡ ((l == d.lcid) || has_channel l c.by_priority)
with_has l d c = by (has_channel d.lcid c.by_priority) refl
  where
    by : (t : Bool) → has_channel d.lcid c.by_priority ≡ t
        → has_channel l (if t then c.by_priority else put d c.by_priority)
        ≡ ((l == d.lcid) || has_channel l c.by_priority)
    by true e = kept_has l d c.by_priority e
    by false e = insert_has l c.by_priority (place d c.by_priority) d

-- ---- both lists of channels have the same, by lines

-- what holds as a line brings a bearer, and rests in each other
module _ (P : Channels → Type 0) (more : (d : Channel) (c : Channels) → P c → P (with_channel d c)) where
  over_line : (line : Line) (c : Channels) → P c → P (channels_by line c)
  over_line (lines.Bearer config options) c p = more config.channel c p
  over_line line c p = p

  over_lines : (past : List Group) → P (channels []) → P (channels past)
  over_lines [] p = p
  over_lines (g ∷ past) p = over_line g.line (channels past) (over_lines past p)

abbrev ListsAlike : ℕ → Channels → Type 0
ListsAlike l c = has_channel l c.by_priority ≡ list_any (λ n. l == n) c.by_lcid

pub lists_alike : (l : ℕ) (past : List Group) → ListsAlike l (channels past)
lists_alike l past = over_lines (ListsAlike l)
    (λ d c e. with_has l d c ∙ ap (λ (t : Bool). (l == d.lcid) || t) e ∙ sym (with_any l d.lcid c.by_lcid)) past refl

flips : (x y : ℕ) → (x == y) ≡ (y == x)
flips x y = grind (arith, nat_tests)

config_line : (l : ℕ) (line : Line) (c : Channels) (before : Option BearerConfig)
    → is_some before ≡ list_any (λ n. l == n) c.by_lcid
    → is_some (config_by l line before) ≡ list_any (λ n. l == n) (channels_by line c).by_lcid
config_line l (lines.Bearer config options) c before e =
    by (config.channel.lcid == l)
    ∙ ap (λ (t : Bool). t || list_any (λ n. l == n) c.by_lcid) (flips config.channel.lcid l)
    ∙ sym (with_any l config.channel.lcid c.by_lcid)
  where
    by : (t : Bool) → is_some (if t then Some config else before) ≡ (t || list_any (λ n. l == n) c.by_lcid)
    by true = refl
    by false = e
config_line l line c before e = e

pub config_listed : (l : ℕ) (past : List Group)
    → is_some (config_of l past) ≡ list_any (λ n. l == n) (channels past).by_lcid
config_listed l [] = refl
config_listed l (g ∷ past) = config_line l g.line (channels past) (config_of l past) (config_listed l past)

pub record HasConfig (l : ℕ) (past : List Group) : Type 0 where
  pub config : BearerConfig
  pub is : config_of l past ≡ Some config

-- an end with such channels has a bearer where a line brought one
pub has_config : (l : ℕ) (past : List Group) (e : End) → channels_of e ≡ channels past → has l e.bearers ≡ true
    → HasConfig l past
has_config l past e same there = by (config_of l past) refl
  where
    some : is_some (config_of l past) ≡ true
    some = config_listed l past ∙ ap (λ (c : Channels). list_any (λ n. l == n) c.by_lcid) (sym same)
        ∙ sym (has_listed l e) ∙ there

    by : (o : Option BearerConfig) → config_of l past ≡ o → HasConfig l past
    by None e = let no : false ≡ true = sym (ap (λ (x : Option BearerConfig). is_some x) e) ∙ some in absurd cc
    by (Some config) e = record { config = config; is = e }

pub end_channels : (side : Side) (past : List Group) → KeepsOrder past
    → channels_of (end_of side (link_behind past)) ≡ channels past
end_channels Nb past order = (channels_behind past order).nb.told_are
end_channels Ue past order = (channels_behind past order).ue.told_are

-- so it has one exactly where a line brought one
pub bearers_are : (side : Side) (l : ℕ) (past : List Group) → KeepsOrder past
    → is_some (config_of l past) ≡ has l (end_of side (link_behind past)).bearers
bearers_are side l past order =
    config_listed l past
    ∙ ap (λ (c : Channels). list_any (λ n. l == n) c.by_lcid) (sym (end_channels side past order))
    ∙ sym (has_listed l (end_of side (link_behind past)))

-- ---- a transparent channel stands first

pub record MayStandFirst (d : Channel) : Type 0 where
  pub some : 1 ≤ d.priority
  pub first : d.lcid ≡ 0 → (d.priority ≡ 1) × (d.pbr ≡ None)

insert_all : (P : Channel → Type 0) (cs : List Channel) (at : ℕ) (d : Channel) → P d → AllByRecursion P cs
    → AllByRecursion P (insert cs at d)
insert_all P cs zero d p a = (p, a)
insert_all P [] (suc at) d p a = (p, tt)
insert_all P (c ∷ cs) (suc at) d p a = (a.0, insert_all P cs at d p a.1)

with_first : (d : Channel) (c : Channels) → MayStandFirst d → AllByRecursion MayStandFirst c.by_priority
    → AllByRecursion MayStandFirst (with_channel d c).by_priority
with_first d c p a = by (has_channel d.lcid c.by_priority)
  where
    by : (t : Bool) → AllByRecursion MayStandFirst (if t then c.by_priority else put d c.by_priority)
    by true = a
    by false = insert_all MayStandFirst c.by_priority (place d c.by_priority) d p a

only_transparent : (kind : Kind) (lcid : ℕ) → IsChannelOf kind lcid → lcid ≡ 0 → kind ≡ Tm
only_transparent Tm lcid h zero' = refl
only_transparent Srb lcid h zero' = absurd (omega (arith, h.0, zero'))
only_transparent Um lcid h zero' = absurd (omega (arith, h.0, zero'))
only_transparent Am lcid h zero' = absurd (omega (arith, h.0, zero'))

config_first : (c : BearerConfig) → IsConfig c → IsTransparentFirst c → MayStandFirst c.channel
config_first c g t = record {
  some = g.priority.0;
  first = λ zero'. t (only_transparent c.kind c.channel.lcid g.lcid zero');
}

first_behind : (past : List Group) (g : Group) (line : Line) → g.line ≡ line → IsRight past g
    → AllByRecursion MayStandFirst (channels past).by_priority
    → AllByRecursion MayStandFirst (channels_by line (channels past)).by_priority
first_behind past g (lines.Bearer config options) is right before =
    let here = subst (λ (line : Line). IsRight past (record g { line = line })) is right in
    with_first config.channel (channels past) (config_first config here.in_range here.transparent) before
first_behind past g line is right before = before

pub all_first : (past : List Group) → KeepsOrder past → AllByRecursion MayStandFirst (channels past).by_priority
all_first [] order = tt
all_first (g ∷ past) (right, order) = first_behind past g g.line refl right (all_first past order)

all_at : (P : Channel → Type 0) (c : Channel) (cs : List Channel) → AllByRecursion P cs → IsOneOf c cs → P c
all_at P c [] a o = absurd o
all_at P c (d ∷ ds) a (inl same) = subst P (sym same) a.0
all_at P c (d ∷ ds) a (inr there) = all_at P c ds a.1 there

pub served_first : (c : Channel) (cs : List Channel) → AreOrdered (λ c d. goes_before c d ≡ true) cs
    → AllByRecursion MayStandFirst cs → IsOneOf c cs → c.lcid ≡ 0 → IsServedFirst c cs
served_first c [] ordered a o zero' = absurd o
served_first c (d ∷ ds) ordered a (inl same) zero' =
    let one = subst MayStandFirst (sym same) a.0 in
    record {
      others = ds;
      channels_are = ap (λ (x : Channel). x ∷ ds) (sym same);
      free = (one.first zero').1;
    }
served_first c (d ∷ ds) ordered a (inr there) zero' =
    let before : goes_before d c ≡ true = all_at (λ x. goes_before d x ≡ true) c ds ordered.0 there in
    let one = (all_at MayStandFirst c ds a.1 there).first zero' in
    let some = a.0.some in
    absurd (not_before d c before some one.0 zero')
  where
    not_before : (d c : Channel) → goes_before d c ≡ true → 1 ≤ d.priority → c.priority ≡ 1 → c.lcid ≡ 0 → ⊥
    not_before d c before some one zero' = grind (arith, nat_tests, before, some, one, zero')
