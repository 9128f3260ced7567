-- No texts of two bearers meet.
use Rattle.std.proofs.Common.{◌≡◌, ◌⊎◌, inl, inr, ℕ, ◌==◌, ◌≤◌, true, false, Option}
use Rattle.std.proofs.Common.{Some, None, List, [], ◌∷◌, map, refl, ap, sym, ◌∙◌}
use Rattle.std.proofs.Common.{subst, arith}
use Rattle.std.proofs.lemmas.Bool.{cases_Bool}
use Rattle.std.proofs.lemmas.Bool.Decides.{nat_tests}
use Rattle.std.specs.List.{AllByRecursion}
use Rattle.air_run.specs.Rules.{wants_keys}
use Rattle.air_text.specs.Groups.{Group}
use Rattle.bearer.specs.Bearer.{flow_of}
use Rattle.law_bearer.specs.AnyBearer.Ciphering.{ciphered, ShareText, AllShareText, cipher_key, IsOneOf}
use Rattle.law_bearer.specs.AnyBearer.Ciphering.{IsOfBearer}
use Rattle.law_words.specs.Lists.{AreDistinct}
use Rattle.law_bearer.proofs.AnyBearer.Ciphering.{ciphers_as_itself, one_text_a_key}
use Rattle.bearer_pdcp.specs.Ends.{bearer_of, sends}
use Rattle.bearer_types.specs.Configs.{IsChannelOf}
use Rattle.bearer_types.specs.declared.config.BearerConfig.{BearerConfig}
use Rattle.eps_sec.specs.declared.Keys.{Keys}
use Rattle.l2_types.specs.declared.channel.Kind.{Kind}
use Rattle.l2_types.specs.declared.channel.Kind.TheVariants as kind
use Rattle.l2_types.specs.declared.side.Side.{Side}
use Rattle.l2_types.specs.declared.side.Side.TheVariants.{Nb, Ue}
use Rattle.law_pdcp.specs.OneEnd.Lives.{Ciphering}
use Rattle.law_run.specs.Order.{KeepsOrder}
use Rattle.law_run.specs.Texts.{AreTexts, AreTextsOf, AreCiphered, NoneMeet}
use Rattle.promises.specs.Keys.{keys_given}
use Rattle.promises.specs.Configs.{config_of}
use Rattle.law_run.proofs.Counts.{same_lcid}
use Rattle.law_run.proofs.Distinct.{rrc_key, AreKeys, are_keys}
use Rattle.law_run.proofs.Keys.{keys_behind}
use Rattle.law_run.proofs.Texts.{is_there, IsConfigured, configured}

-- ---- no two meet

-- what is known of the texts of a side and channel
record AreKnown (side : Side) (lcid : ℕ) (past : List Group) (xs : List Ciphering) : Type 0 where
  config : BearerConfig
  configured : IsConfigured lcid config
  wants : wants_keys config.kind ≡ true
  own : AllByRecursion (IsOfBearer config side (keys_given past)) xs
  alone : AllShareText xs xs

abbrev AreNoneOrKnown : Side → ℕ → List Group → List Ciphering → Type 0
AreNoneOrKnown side lcid past xs = (xs ≡ []) ⊎ AreKnown side lcid past xs

never : (xs ys : List Ciphering) (P Q : Ciphering → Type 0) → ((x y : Ciphering) → P x → Q y → ShareText x y)
    → AllByRecursion P xs → AllByRecursion Q ys → AllShareText xs ys
never [] ys P Q h p q = tt
never (x ∷ xs) ys P Q h p q = (each ys q, never xs ys P Q h p.1 q)
  where
    each : (zs : List Ciphering) → AllByRecursion Q zs → AllByRecursion (ShareText x) zs
    each [] r = tt
    each (z ∷ zs) r = (h x z p.0 r.0, each zs r.1)

-- BEARERs of two channels
two_signalling : (m n : ℕ) → (1 ≤ m) × (m ≤ 2) → (1 ≤ n) × (n ≤ 2) → (m ≡ n → ⊥) → bearer_of m ≡ bearer_of n → ⊥
two_signalling m n i j differ bearer = differ (grind (arith, nat_tests, i.0, i.1, j.0, j.1, bearer))

two_data : (m n : ℕ) → (3 ≤ m) × (m ≤ 10) → (3 ≤ n) × (n ≤ 10) → (m ≡ n → ⊥) → bearer_of m ≡ bearer_of n → ⊥
two_data m n i j differ bearer = differ (grind (arith, nat_tests, i.0, i.1, j.0, j.1, bearer))

-- signalling and data have other keys, and two of either another BEARER
other_bearer : (k l : Kind) (past : List Group) (m n : ℕ) → AreKeys past → IsChannelOf k m → IsChannelOf l n
    → (m ≡ n → ⊥) → wants_keys k ≡ true → wants_keys l ≡ true → (x y : List ℕ)
    → IsOneOf x (map (cipher_key k) (keys_given past)) → IsOneOf y (map (cipher_key l) (keys_given past))
    → x ≡ y → bearer_of m ≡ bearer_of n → ⊥
other_bearer kind.Tm l past m n a i j differ v w x y p q same bearer = absurd cc
other_bearer k kind.Tm past m n a i j differ v w x y p q same bearer = absurd cc
other_bearer kind.Srb kind.Srb past m n a i j differ v w x y p q same bearer = two_signalling m n i j differ bearer
other_bearer kind.Srb kind.Um past m n a i j differ v w x y p q same bearer =
    a.apart y q (subst (λ (z : List ℕ). IsOneOf z (map rrc_key (keys_given past))) same p)
other_bearer kind.Srb kind.Am past m n a i j differ v w x y p q same bearer =
    a.apart y q (subst (λ (z : List ℕ). IsOneOf z (map rrc_key (keys_given past))) same p)
other_bearer kind.Um kind.Srb past m n a i j differ v w x y p q same bearer =
    a.apart x p (subst (λ (z : List ℕ). IsOneOf z (map rrc_key (keys_given past))) (sym same) q)
other_bearer kind.Am kind.Srb past m n a i j differ v w x y p q same bearer =
    a.apart x p (subst (λ (z : List ℕ). IsOneOf z (map rrc_key (keys_given past))) (sym same) q)
other_bearer kind.Um kind.Um past m n a i j differ v w x y p q same bearer = two_data m n i j differ bearer
other_bearer kind.Um kind.Am past m n a i j differ v w x y p q same bearer = two_data m n i j differ bearer
other_bearer kind.Am kind.Um past m n a i j differ v w x y p q same bearer = two_data m n i j differ bearer
other_bearer kind.Am kind.Am past m n a i j differ v w x y p q same bearer = two_data m n i j differ bearer

other_side : (s t : Side) → sends s ≡ sends t → s ≡ t
other_side Nb Nb e = refl
other_side Nb Ue e = absurd cc
other_side Ue Nb e = absurd cc
other_side Ue Ue e = refl

two_sides : (s t : Side) → (s ≡ t) ⊎ (s ≡ t → ⊥)
two_sides Nb Nb = inl refl
two_sides Nb Ue = inr (λ e. absurd cc)
two_sides Ue Nb = inr (λ e. absurd cc)
two_sides Ue Ue = inl refl

-- of two sides, or of two channels of one
apart_by_side : (s t : Side) (m n : ℕ) (past : List Group) (xs ys : List Ciphering) → (s ≡ t → ⊥)
    → AreKnown s m past xs → AreKnown t n past ys → AllShareText xs ys
apart_by_side s t m n past xs ys differ a b =
    never xs ys (IsOfBearer a.config s (keys_given past)) (IsOfBearer b.config t (keys_given past))
    (λ x y p q key bearer direction count. absurd
    (differ (other_side s t (sym p.direction ∙ direction ∙ q.direction)))) a.own b.own

apart_by_channel : (s : Side) (m n : ℕ) (past : List Group) (xs ys : List Ciphering) → AreKeys past → (m ≡ n → ⊥)
    → AreKnown s m past xs → AreKnown s n past ys → AllShareText xs ys
apart_by_channel s m n past xs ys keys differ a b =
    let c = a.config in
    let d = b.config in
    let other : c.channel.lcid ≡ d.channel.lcid → ⊥ =
    λ e. differ (sym a.configured.lcid_is ∙ e ∙ b.configured.lcid_is) in
    never xs ys (IsOfBearer c s (keys_given past)) (IsOfBearer d s (keys_given past))
    (λ x y p q key bearer direction count. absurd
    (other_bearer c.kind d.kind past c.channel.lcid d.channel.lcid keys a.configured.in_range.lcid
    b.configured.in_range.lcid other a.wants b.wants x.protection.key y.protection.key p.key q.key key
    (sym p.bearer ∙ bearer ∙ q.bearer)))
    a.own b.own

-- ---- the texts of all

record Chosen (side : Side) (lcid : ℕ) (past : List Group) (P : List Ciphering → Type 0) : Type 0 where
  texts : List Ciphering
  are : P texts
  known : AreNoneOrKnown side lcid past texts

differ_by : (k : Kind) (past : List Group) → AreKeys past → AreDistinct (map (cipher_key k) (keys_given past))
differ_by kind.Tm past h = h.users_differ
differ_by kind.Srb past h = h.rrcs_differ
differ_by kind.Um past h = h.users_differ
differ_by kind.Am past h = h.users_differ

keyed_texts : (side : Side) (lcid : ℕ) (past : List Group) (c : BearerConfig) → KeepsOrder past → AreKeys past
    → wants_keys c.kind ≡ true → config_of lcid past ≡ Some c → Chosen side lcid past (AreTexts side lcid past c)
keyed_texts side lcid past c order keys wants e =
    let t = is_there side lcid past c order wants e in
    let texts = ciphered (flow_of c.kind c t.keys side) t.steps in
    record {
      texts = texts;
      are = record {
        keys = t.keys;
        steps = t.steps;
        flow_is = t.flow_is;
        lives_are = t.lives_are;
        counts_are = t.counts_are;
        texts_are = refl;
      };
      known = inr (record {
        config = c;
        configured = configured lcid past c order e;
        wants = wants;
        own = subst (λ (ks : List Keys). AllByRecursion (IsOfBearer c side ks) texts) t.lives_are
            (ciphers_as_itself c t.keys side t.steps);
        alone =
            one_text_a_key c t.keys side t.steps
            (subst (λ (ks : List Keys). AreDistinct (map (cipher_key c.kind) ks)) (sym t.lives_are)
            (differ_by c.kind past keys));
      });
    }

texts_of_kind : (k : Kind) (side : Side) (lcid : ℕ) (past : List Group) (c : BearerConfig) → KeepsOrder past
    → AreKeys past → c.kind ≡ k → config_of lcid past ≡ Some c → Chosen side lcid past (AreTextsOf k side lcid past c)
texts_of_kind kind.Tm side lcid past c order keys kind e = record { texts = []; are = refl; known = inl refl }
texts_of_kind kind.Srb side lcid past c order keys kind e =
    keyed_texts side lcid past c order keys (ap wants_keys kind) e
texts_of_kind kind.Um side lcid past c order keys kind e =
    keyed_texts side lcid past c order keys (ap wants_keys kind) e
texts_of_kind kind.Am side lcid past c order keys kind e =
    keyed_texts side lcid past c order keys (ap wants_keys kind) e

texts_by : (o : Option BearerConfig) (side : Side) (lcid : ℕ) (past : List Group) → KeepsOrder past → AreKeys past
    → config_of lcid past ≡ o → Chosen side lcid past (AreCiphered side lcid past o)
texts_by None side lcid past order keys e = record { texts = []; are = refl; known = inl refl }
texts_by (Some c) side lcid past order keys e = texts_of_kind c.kind side lcid past c order keys refl e

share : (s t : Side) (m n : ℕ) (past : List Group) (texts : Side → ℕ → List Ciphering) → AreKeys past
    → ((side : Side) (lcid : ℕ) → AreNoneOrKnown side lcid past (texts side lcid))
    → AllShareText (texts s m) (texts t n)
share s t m n past texts keys known = elim (known s m) [
  | inl none ↦ subst (λ (xs : List Ciphering). AllShareText xs (texts t n)) (sym none) tt
  | inr a ↦ elim (known t n) [
    | inl none ↦ subst (AllShareText (texts s m)) (sym none) (none_shares (texts s m))
    | inr b ↦ elim (two_sides s t) [
      | inr differ ↦ apart_by_side s t m n past (texts s m) (texts t n) differ a b
      | inl same ↦ elim (cases_Bool (m == n)) [
        | inl is ↦
            subst (λ (u : Side). AllShareText (texts s m) (texts u n)) same
            (subst (λ (l : ℕ). AllShareText (texts s m) (texts s l)) (same_lcid m n is) a.alone)
        | inr is ↦
            subst (λ (u : Side). AllShareText (texts s m) (texts u n)) same
            (apart_by_channel s m n past (texts s m) (texts s n) keys (other_lcid m n is) a
            (subst (λ (u : Side). AreKnown u n past (texts u n)) (sym same) b))
      ]
    ]
  ]
]
  where
    none_shares : (xs : List Ciphering) → AllShareText xs []
    none_shares [] = tt
    none_shares (x ∷ xs) = (tt, none_shares xs)

    other_lcid : (a b : ℕ) → (a == b) ≡ false → a ≡ b → ⊥
    other_lcid a b is same = let test : (a == b) ≡ true = grind (arith, nat_tests) in
        let no : true ≡ false = sym test ∙ is in cc

pub none_meet : (past : List Group) → KeepsOrder past → NoneMeet past
none_meet past order =
    let keys = are_keys past (keys_behind past order).distinct in
    let chosen : (side : Side) (lcid : ℕ) → Chosen side lcid past (AreCiphered side lcid past (config_of lcid past)) =
    λ side lcid. texts_by (config_of lcid past) side lcid past order keys refl in
    record {
      texts = λ side lcid. (chosen side lcid).texts;
      are_ciphered = λ side lcid. (chosen side lcid).are;
      one_text = λ side other lcid l. share side other lcid l past (λ s n. (chosen s n).texts) keys
          (λ s n. (chosen s n).known);
    }
