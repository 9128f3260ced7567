-- What is kept within a group, first behind its line: each flow has read what it handed up, beside what went up.
use Rattle.std.proofs.Common.{◌≡◌, ℕ, zero, suc, ◌<◌, ◌≤◌, Bool, true, false, List, [], ◌∷◌, ◌++◌, length, Option}
use Rattle.std.proofs.Common.{Some, None, slice_set, slice_index_or, option_map, refl, ap, sym, ◌∙◌, arith}
use Rattle.std.proofs.Common.{append-nil, subst, if◌then◌else◌}
use Rattle.std.specs.Prelude.{◌==◌}
use Rattle.std.proofs.lemmas.Bool.{false≢true}
use Rattle.eps_sec.specs.declared.Keys.{Keys}
use Rattle.l2_types.specs.declared.channel.Kind.{Kind}
use Rattle.l2_types.specs.declared.channel.Kind.TheVariants as bearers
use Rattle.l2_types.specs.declared.side.Side.{Side}
use Rattle.l2_types.specs.declared.side.Side.TheVariants.{Nb, Ue}
use Rattle.bearer_types.specs.declared.config.BearerConfig.{BearerConfig}
use Rattle.bearer_types.specs.Sides.{other}
use Rattle.air_record.specs.Cells.{next_keys}
use Rattle.air_record.specs.declared.line.Line.{Line}
use Rattle.air_record.specs.declared.line.Line.TheVariants as lines
use Rattle.air_record.specs.declared.record.Record.{Record}
use Rattle.air_text.specs.Groups.{Group}
use Rattle.promises.specs.Keys.{keys_in_force, keys_in_force_by}
use Rattle.promises.specs.Parts.{is_handover}
use Rattle.promises.specs.Records.{ups_in}
use Rattle.journal_um.specs.declared.pieces.JoinedSdu.{JoinedSdu}
use Rattle.journal_flows.specs.Gathering.{MayTake}
use Rattle.journal_flows.specs.Accounts.{Keeping, all_kept}
use Rattle.journal_flows.specs.Accounts as flows
use Rattle.journal_flows.specs.Laws.{Deed, GoesLine, kept_by, taken_of, begins_on, bearer_on, bearer_by}
use Rattle.journal_edge.specs.UmReading.{Reader}
use Rattle.journal_edge.specs.Pairing.{nothing_paired}
use Rattle.journal_edge.specs.EdgeFlow.{EdgeFlow, flow_begun}
use Rattle.journal_edge.specs.EdgeChecking.{EdgeChecking, Beside, octets_in, slot_at, um_begun, with_bearer}
use Rattle.journal_edge.specs.EdgeChecking.{after_line, keys_behind, beside_line}
use Rattle.journal_edge.specs.RightEdge.{protection, life_keys}
use Rattle.journal_edge.proofs.Pairs.{ArePaired, all_pair}
use Rattle.journal_edge.proofs.Readings.{read_to, reads_by}
use Rattle.journal_edge.proofs.Edges.{handed, next_at}
use Rattle.journal_edge.proofs.Taking.{kept_whole, apart, other_at}

-- ---- a slot, by the bearer of its channel

abbrev pub SlotIn : (BearerConfig → EdgeFlow → Type 0) → Kind → BearerConfig → Option EdgeFlow → Type 0
SlotIn P bearers.Um config slot = (f : EdgeFlow) × (slot ≡ Some f) × P config f
SlotIn P kind config slot = slot ≡ None

abbrev pub SlotFor : (BearerConfig → EdgeFlow → Type 0) → Option BearerConfig → Option EdgeFlow → Type 0
SlotFor P None slot = slot ≡ None
SlotFor P (Some config) slot = SlotIn P config.kind config slot

-- a step of each flow is one of its slot
pub slot_step : (P Q : BearerConfig → EdgeFlow → Type 0) (g : EdgeFlow → EdgeFlow) (bearer : Option BearerConfig)
    (slot slot' : Option EdgeFlow) → slot' ≡ option_map g slot
    → ((config : BearerConfig) (f : EdgeFlow) → bearer ≡ Some config → config.kind ≡ bearers.Um → slot ≡ Some f
    → P config f → Q config (g f))
    → SlotFor P bearer slot → SlotFor Q bearer slot'
slot_step P Q g None slot slot' is step h = is ∙ ap (λ (s : Option EdgeFlow). option_map g s) h
slot_step P Q g (Some config) slot slot' is step h = by config.kind refl h
  where
    by : (kind : Kind) → config.kind ≡ kind → SlotIn P kind config slot → SlotIn Q kind config slot'
    by bearers.Tm e h = is ∙ ap (λ (s : Option EdgeFlow). option_map g s) h
    by bearers.Srb e h = is ∙ ap (λ (s : Option EdgeFlow). option_map g s) h
    by bearers.Um e h =
        (g h.0, is ∙ ap (λ (s : Option EdgeFlow). option_map g s) h.1, step config h.0 refl e h.1 h.2)
    by bearers.Am e h = is ∙ ap (λ (s : Option EdgeFlow). option_map g s) h

pub slot_same : (P Q : BearerConfig → EdgeFlow → Type 0) (bearer : Option BearerConfig)
    (slot slot' : Option EdgeFlow) → slot' ≡ slot
    → ((config : BearerConfig) (f : EdgeFlow) → P config f → Q config f)
    → SlotFor P bearer slot → SlotFor Q bearer slot'
slot_same P Q None slot slot' is step h = is ∙ h
slot_same P Q (Some config) slot slot' is step h = by config.kind h
  where
    by : (kind : Kind) → SlotIn P kind config slot → SlotIn Q kind config slot'
    by bearers.Tm h = is ∙ h
    by bearers.Srb h = is ∙ h
    by bearers.Um h = (h.0, is ∙ h.1, step config h.0 h.2)
    by bearers.Am h = is ∙ h

-- who reads the SDUs of a flow
abbrev pub reader_at : Side → BearerConfig → Keys → ℕ → Reader
reader_at from config keys next =
    record { bits = config.pdcp_bits; protection = protection from config keys; next = next }

-- ---- behind groups

pub record IsAtRest (may_take : MayTake) (past : List Group) (from : Side) (l : ℕ) (deeds : List Deed)
    (config : BearerConfig) (f : EdgeFlow) : Type 0 where
  pub pairs : f.pairs ≡ nothing_paired
  pub reader : f.reader ≡ reader_at from config (life_keys l past) (next_at may_take from l config past)
  pub taken : taken_of from l deeds ≡ handed may_take from l config past

pub record Rest (may_take : MayTake) (past : List Group) (b : Beside) : Type 0 where
  pub deeds : List Deed
  pub kept : b.kept ≡ kept_by deeds
  pub whole : kept_whole deeds ≡ all_kept may_take past
  pub keys : b.checked.keys ≡ keys_in_force past
  pub renewal : b.checked.renewal ≡ None
  pub nb_size : length b.checked.nb ≡ 11
  pub ue_size : length b.checked.ue ≡ 11
  pub flows : (from : Side) (l : ℕ) → l ≤ 10
      → SlotFor (IsAtRest may_take past from l deeds) (bearer_on l past) (slot_at from l b.checked)

-- ---- within a group

-- as the group begins: what was taken, and who reads
abbrev pub taken_first : MayTake → Group → List Group → Side → ℕ → BearerConfig → List JoinedSdu
taken_first may_take now past from l config =
    if begins_on now.line l then [] else handed may_take from l config past

abbrev pub keys_first : Group → List Group → ℕ → Keys
keys_first now past l = if begins_on now.line l then keys_in_force (now ∷ past) else life_keys l past

abbrev pub next_first : MayTake → Group → List Group → Side → ℕ → BearerConfig → ℕ
next_first may_take now past from l config =
    if begins_on now.line l then 0 else next_at may_take from l config past

abbrev pub reader_first : MayTake → Group → List Group → Side → ℕ → BearerConfig → Reader
reader_first may_take now past from l config = reader_at from config (keys_first now past l)
    (next_first may_take now past from l config)

pub record IsInside (may_take : MayTake) (now : Group) (past : List Group) (from : Side) (l : ℕ)
    (seen : List Record) (deeds : List Deed) (config : BearerConfig) (f : EdgeFlow) : Type 0 where
  pub new : List JoinedSdu
  pub taken : taken_of from l deeds ≡ taken_first may_take now past from l config ++ new
  pub reader : f.reader ≡ read_to (octets_in new) (reader_first may_take now past from l config)
  pub pairs : ArePaired (reads_by (reader_first may_take now past from l config) (octets_in new))
      (ups_in (other from) l seen) f.pairs

abbrev pub renewal_in : Group → List Group → Option Keys
renewal_in now past = if is_handover now.line then Some (keys_in_force (now ∷ past)) else None

pub record Inside (may_take : MayTake) (now : Group) (past : List Group) (right : Bool) (seen : List Record)
    (whole' : Keeping) (b : Beside) : Type 0 where
  pub deeds : List Deed
  pub kept : b.kept ≡ kept_by deeds
  pub whole : kept_whole deeds ≡ whole'
  pub keys : keys_behind b.checked.renewal b.checked.keys ≡ keys_in_force (now ∷ past)
  pub renewal : b.checked.renewal ≡ renewal_in now past
  pub right_is : b.checked.right ≡ right
  pub nb_size : length b.checked.nb ≡ 11
  pub ue_size : length b.checked.ue ≡ 11
  pub flows : (from : Side) (l : ℕ) → l ≤ 10
      → SlotFor (IsInside may_take now past from l seen deeds) (bearer_on l (now ∷ past))
      (slot_at from l b.checked)

-- ---- the line

pub set_size : (xs : List (Option EdgeFlow)) (i : ℕ) (v : Option EdgeFlow) → length (slice_set xs i v) ≡ length xs
set_size [] i v = refl
set_size (x ∷ xs) zero v = refl
set_size (x ∷ xs) (suc i) v = ap suc (set_size xs i v)

set_same : (xs : List (Option EdgeFlow)) (i : ℕ) (v : Option EdgeFlow) → i < length xs
    → slice_index_or (slice_set xs i v) i None ≡ v
set_same [] i v h = absurd (omega (arith, h))
set_same (x ∷ xs) zero v h = refl
set_same (x ∷ xs) (suc i) v h = set_same xs i v (omega (arith, h))

low : (xs : List (Option EdgeFlow)) (l : ℕ) → l ≤ 10 → length xs ≡ 11 → l < length xs
low xs l h e = omega (arith, h, e)

pub is_number : (a b : ℕ) → (a == b) ≡ true → a ≡ b
is_number a b e = grind (arith, e)

-- a bearer's slots
begun_at : (from : Side) (l : ℕ) (config : BearerConfig) (c : EdgeChecking) → l ≤ 10 → length c.nb ≡ 11
    → length c.ue ≡ 11 → config.channel.lcid ≡ l
    → slot_at from l (with_bearer config c) ≡ um_begun config.kind from c.keys config
begun_at Nb l config c h nb ue e =
    ap (λ (n : ℕ). slice_index_or (slice_set c.nb n (um_begun config.kind Nb c.keys config)) l None) e
    ∙ set_same c.nb l (um_begun config.kind Nb c.keys config) (low c.nb l h nb)
begun_at Ue l config c h nb ue e =
    ap (λ (n : ℕ). slice_index_or (slice_set c.ue n (um_begun config.kind Ue c.keys config)) l None) e
    ∙ set_same c.ue l (um_begun config.kind Ue c.keys config) (low c.ue l h ue)

kept_at : (from : Side) (l : ℕ) (config : BearerConfig) (c : EdgeChecking) → (config.channel.lcid == l) ≡ false
    → slot_at from l (with_bearer config c) ≡ slot_at from l c
kept_at Nb l config c e = other_at c.nb config.channel.lcid l (um_begun config.kind Nb c.keys config)
    (apart config.channel.lcid l e)
kept_at Ue l config c e = other_at c.ue config.channel.lcid l (um_begun config.kind Ue c.keys config)
    (apart config.channel.lcid l e)

-- a flow that goes on
goes_on : (may_take : MayTake) (now : Group) (past : List Group) (from : Side) (l : ℕ) (deeds : List Deed)
    → begins_on now.line l ≡ false
    → (config : BearerConfig) (f : EdgeFlow) → IsAtRest may_take past from l deeds config f
    → IsInside may_take now past from l [] (GoesLine now.line ∷ deeds) config f
goes_on may_take now past from l deeds e config f h = record {
  new = [];
  taken = ap (λ (b : Bool). if b then [] else taken_of from l deeds) e ∙ h.taken
      ∙ sym (ap (λ (b : Bool). if b then [] else handed may_take from l config past) e)
      ∙ sym (append-nil (taken_first may_take now past from l config));
  reader = h.reader ∙ sym (first_is (begins_on now.line l) e);
  pairs = subst (λ p. ArePaired [] [] p) (sym h.pairs) (all_pair []);
}
  where
    first_is : (b : Bool) → b ≡ false
        → reader_at from config (if b then keys_in_force (now ∷ past) else life_keys l past)
        (if b then 0 else next_at may_take from l config past) ≡ reader_at from config (life_keys l past)
        (next_at may_take from l config past)
    first_is false e = refl
    first_is true e = absurd (false≢true (sym e))

-- and one that begins
begins_so : (may_take : MayTake) (now : Group) (past : List Group) (from : Side) (l : ℕ) (deeds : List Deed)
    (config : BearerConfig) (keys : Keys) → begins_on now.line l ≡ true → keys ≡ keys_in_force (now ∷ past)
    → IsInside may_take now past from l [] (GoesLine now.line ∷ deeds) config
    (flow_begun config.pdcp_bits (protection from config keys))
begins_so may_take now past from l deeds config keys e k = record {
  new = [];
  taken = ap (λ (b : Bool). if b then [] else taken_of from l deeds) e
      ∙ sym (ap (λ (b : Bool). if b then [] else handed may_take from l config past) e)
      ∙ sym (append-nil (taken_first may_take now past from l config));
  reader = ap (λ (ks : Keys). reader_at from config ks 0) k ∙ sym (first_is (begins_on now.line l) e);
  pairs = all_pair [];
}
  where
    first_is : (b : Bool) → b ≡ true
        → reader_at from config (if b then keys_in_force (now ∷ past) else life_keys l past)
        (if b then 0 else next_at may_take from l config past) ≡ reader_at from config (keys_in_force (now ∷ past)) 0
    first_is true e = refl
    first_is false e = absurd (false≢true e)

keys_line : (line : Line) (c : EdgeChecking) (before : Keys) → c.renewal ≡ None → c.keys ≡ before
    → keys_behind (after_line line c).renewal (after_line line c).keys ≡ keys_in_force_by line before
keys_line (lines.Keys keys) c before n k = ap (λ (o : Option Keys). keys_behind o keys) n
keys_line (lines.Handover user rrc integrity) c before n k =
    ap (λ (ks : Keys). next_keys user rrc integrity ks) k
keys_line line c before n k = ap (λ (o : Option Keys). keys_behind o c.keys) n ∙ k

renewal_line : (line : Line) (c : EdgeChecking) (before : Keys) → c.renewal ≡ None → c.keys ≡ before
    → (after_line line c).renewal ≡ (if is_handover line then Some (keys_in_force_by line before) else None)
renewal_line (lines.Handover user rrc integrity) c before n k =
    ap (λ (ks : Keys). Some (next_keys user rrc integrity ks)) k
renewal_line line c before n k = n

right_line : (line : Line) (c : EdgeChecking) → (after_line line c).right ≡ c.right
right_line (lines.Bearer config options) c = refl
right_line (lines.Keys keys) c = refl
right_line (lines.Handover user rrc integrity) c = refl
right_line line c = refl

nb_line : (line : Line) (c : EdgeChecking) → length (after_line line c).nb ≡ length c.nb
nb_line (lines.Bearer config options) c = set_size c.nb config.channel.lcid (um_begun config.kind Nb c.keys config)
nb_line (lines.Keys keys) c = refl
nb_line (lines.Handover user rrc integrity) c = refl
nb_line line c = refl

ue_line : (line : Line) (c : EdgeChecking) → length (after_line line c).ue ≡ length c.ue
ue_line (lines.Bearer config options) c = set_size c.ue config.channel.lcid (um_begun config.kind Ue c.keys config)
ue_line (lines.Keys keys) c = refl
ue_line (lines.Handover user rrc integrity) c = refl
ue_line line c = refl

with_keys_at : (from : Side) (l : ℕ) (c : EdgeChecking) (keys : Keys)
    → slot_at from l (record c { keys = keys }) ≡ slot_at from l c
with_keys_at Nb l c keys = refl
with_keys_at Ue l c keys = refl

with_renewal_at : (from : Side) (l : ℕ) (c : EdgeChecking) (renewal : Option Keys)
    → slot_at from l (record c { renewal = renewal }) ≡ slot_at from l c
with_renewal_at Nb l c renewal = refl
with_renewal_at Ue l c renewal = refl

line_flow : (may_take : MayTake) (now : Group) (past : List Group) (b : Beside) (r : Rest may_take past b)
    (from : Side) (l : ℕ) → l ≤ 10 → (line : Line) → now.line ≡ line
    → SlotFor (IsInside may_take now past from l [] (GoesLine now.line ∷ r.deeds))
    (bearer_by line l (bearer_on l past)) (slot_at from l (after_line line b.checked))
line_flow may_take now past b r from l h (lines.Bearer config options) is =
    by (config.channel.lcid == l) refl
  where
    by : (x : Bool) → (config.channel.lcid == l) ≡ x
        → SlotFor (IsInside may_take now past from l [] (GoesLine now.line ∷ r.deeds))
        (if x then Some config else bearer_on l past) (slot_at from l (with_bearer config b.checked))
    by true e = kind config.kind refl
      where
        slot : slot_at from l (with_bearer config b.checked) ≡ um_begun config.kind from b.checked.keys config
        slot = begun_at from l config b.checked h r.nb_size r.ue_size (is_number config.channel.lcid l e)

        keys : b.checked.keys ≡ keys_in_force (now ∷ past)
        keys = r.keys ∙ sym (ap (λ (x : Line). keys_in_force_by x (keys_in_force past)) is)

        kind : (k : Kind) → config.kind ≡ k
            → SlotIn (IsInside may_take now past from l [] (GoesLine now.line ∷ r.deeds)) k config
            (slot_at from l (with_bearer config b.checked))
        kind bearers.Tm q = slot ∙ ap (λ (k : Kind). um_begun k from b.checked.keys config) q
        kind bearers.Srb q = slot ∙ ap (λ (k : Kind). um_begun k from b.checked.keys config) q
        kind bearers.Am q = slot ∙ ap (λ (k : Kind). um_begun k from b.checked.keys config) q
        kind bearers.Um q = (
          flow_begun config.pdcp_bits (protection from config b.checked.keys),
          slot ∙ ap (λ (k : Kind). um_begun k from b.checked.keys config) q,
          begins_so may_take now past from l r.deeds config b.checked.keys
              (ap (λ (x : Line). begins_on x l) is ∙ e) keys,
        )
    by false e = slot_same (IsAtRest may_take past from l r.deeds)
        (IsInside may_take now past from l [] (GoesLine now.line ∷ r.deeds)) (bearer_on l past)
        (slot_at from l b.checked) (slot_at from l (with_bearer config b.checked)) (kept_at from l config b.checked e)
        (goes_on may_take now past from l r.deeds (ap (λ (x : Line). begins_on x l) is ∙ e)) (r.flows from l h)
line_flow may_take now past b r from l h (lines.Keys keys) is =
    slot_same (IsAtRest may_take past from l r.deeds)
    (IsInside may_take now past from l [] (GoesLine now.line ∷ r.deeds)) (bearer_on l past)
    (slot_at from l b.checked) (slot_at from l (after_line (lines.Keys keys) b.checked))
    (with_keys_at from l b.checked keys)
    (goes_on may_take now past from l r.deeds (ap (λ (x : Line). begins_on x l) is)) (r.flows from l h)
line_flow may_take now past b r from l h (lines.Handover user rrc integrity) is =
    slot_same (IsAtRest may_take past from l r.deeds)
    (IsInside may_take now past from l [] (GoesLine now.line ∷ r.deeds)) (bearer_on l past)
    (slot_at from l b.checked) (slot_at from l (after_line (lines.Handover user rrc integrity) b.checked))
    (with_renewal_at from l b.checked (Some (next_keys user rrc integrity b.checked.keys)))
    (goes_on may_take now past from l r.deeds (ap (λ (x : Line). begins_on x l) is)) (r.flows from l h)
line_flow may_take now past b r from l h line is =
    slot_same (IsAtRest may_take past from l r.deeds)
    (IsInside may_take now past from l [] (GoesLine now.line ∷ r.deeds)) (bearer_on l past)
    (slot_at from l b.checked) (slot_at from l b.checked) refl
    (goes_on may_take now past from l r.deeds (ap (λ (x : Line). begins_on x l) is)) (r.flows from l h)

pub line_step : (may_take : MayTake) (now : Group) (past : List Group) (b : Beside) → Rest may_take past b
    → Inside may_take now past b.checked.right [] (flows.after_line now.line (all_kept may_take past))
    (beside_line now.line b)
line_step may_take now past b r = record {
  deeds = GoesLine now.line ∷ r.deeds;
  kept = ap (λ (k : Keeping). flows.after_line now.line k) r.kept;
  whole = ap (λ (k : Keeping). flows.after_line now.line k) r.whole;
  keys = keys_line now.line b.checked (keys_in_force past) r.renewal r.keys;
  renewal = renewal_line now.line b.checked (keys_in_force past) r.renewal r.keys;
  right_is = right_line now.line b.checked;
  nb_size = nb_line now.line b.checked ∙ r.nb_size;
  ue_size = ue_line now.line b.checked ∙ r.ue_size;
  flows = λ from l h. line_flow may_take now past b r from l h now.line refl;
}
