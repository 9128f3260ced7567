-- The keys that lines give for ciphering are all different: those of user data, those of signalling, and those of one
-- from the other.
use Rattle.std.proofs.Common.{◌≡◌, ◌⊎◌, inl, inr, ℕ, if◌then◌else◌, List, [], ◌∷◌, ◌++◌, map, append-nil, refl, sym}
use Rattle.std.proofs.Common.{◌∙◌, subst}
use Rattle.std.proofs.lemmas.List.{map-append}
use Rattle.std.specs.List.{AllByRecursion}
use Rattle.air_record.specs.declared.line.Line.{Line}
use Rattle.air_record.specs.declared.line.Line.TheVariants as lines
use Rattle.air_record.specs.Cells.{next_keys}
use Rattle.air_text.specs.Groups.{Group}
use Rattle.law_bearer.specs.AnyBearer.Ciphering.{IsOneOf}
use Rattle.law_words.specs.Lists.{AreDistinct}
use Rattle.law_bearer.proofs.AnyBearer.Ciphering.{none_of_them}
use Rattle.eps_sec.specs.declared.Keys.{Keys}
use Rattle.promises.specs.Keys.{keys_of, all_keys, keys_in_force_by, keys_in_force, gives_keys, keys_given}

one_of_either : (x : List ℕ) (xs : List (List ℕ)) (y : List ℕ) → IsOneOf x (xs ++ y ∷ []) → IsOneOf x xs ⊎ (x ≡ y)
one_of_either x [] y (inl e) = inr e
one_of_either x [] y (inr wrong) = absurd wrong
one_of_either x (z ∷ xs) y (inl e) = inl (inl e)
one_of_either x (z ∷ xs) y (inr more) = elim (one_of_either x xs y more) [
  | inl there ↦ inl (inr there)
  | inr here ↦ inr here
]

distinct_last : (xs : List (List ℕ)) (y : List ℕ) → AreDistinct xs → (IsOneOf y xs → ⊥) → AreDistinct (xs ++ y ∷ [])
distinct_last [] y d h = (tt, tt)
distinct_last (x ∷ xs) y d h = (all_other xs d.0, distinct_last xs y d.1 (λ more. h (inr more)))
  where
    all_other : (zs : List (List ℕ)) → AllByRecursion (λ other. x ≡ other → ⊥) zs
        → AllByRecursion (λ other. x ≡ other → ⊥) (zs ++ y ∷ [])
    all_other [] p = (λ e. h (inl (sym e)), tt)
    all_other (z ∷ zs) p = (p.0, all_other zs p.1)

abbrev pub user_key : Keys → List ℕ
user_key keys = keys.user.octets

abbrev pub rrc_key : Keys → List ℕ
rrc_key keys = keys.rrc.octets

-- what holds of the keys that lines gave, among all keys
pub record AreKeys (past : List Group) : Type 0 where
  pub users : (x : List ℕ) → IsOneOf x (map user_key (keys_given past)) → IsOneOf x (all_keys past)
  pub rrcs : (x : List ℕ) → IsOneOf x (map rrc_key (keys_given past)) → IsOneOf x (all_keys past)
  pub users_differ : AreDistinct (map user_key (keys_given past))
  pub rrcs_differ : AreDistinct (map rrc_key (keys_given past))
  pub apart : (x : List ℕ) → IsOneOf x (map user_key (keys_given past)) → IsOneOf x (map rrc_key (keys_given past)) → ⊥

-- with those of a line
record AreMore (past : List Group) (keys : List Keys) (all : List (List ℕ)) : Type 0 where
  users : (x : List ℕ) → IsOneOf x (map user_key (keys_given past ++ keys)) → IsOneOf x all
  rrcs : (x : List ℕ) → IsOneOf x (map rrc_key (keys_given past ++ keys)) → IsOneOf x all
  users_differ : AreDistinct (map user_key (keys_given past ++ keys))
  rrcs_differ : AreDistinct (map rrc_key (keys_given past ++ keys))
  apart : (x : List ℕ) → IsOneOf x (map user_key (keys_given past ++ keys))
      → IsOneOf x (map rrc_key (keys_given past ++ keys))
      → ⊥

no_more : (past : List Group) → AreKeys past → AreMore past [] (all_keys past)
no_more past h =
    let none = append-nil (keys_given past) in
    record {
      users = λ x is. h.users x (subst (λ (ks : List Keys). IsOneOf x (map user_key ks)) none is);
      rrcs = λ x is. h.rrcs x (subst (λ (ks : List Keys). IsOneOf x (map rrc_key ks)) none is);
      users_differ = subst (λ (ks : List Keys). AreDistinct (map user_key ks)) (sym none) h.users_differ;
      rrcs_differ = subst (λ (ks : List Keys). AreDistinct (map rrc_key ks)) (sym none) h.rrcs_differ;
      apart = λ x is also. h.apart x (subst (λ (ks : List Keys). IsOneOf x (map user_key ks)) none is)
          (subst (λ (ks : List Keys). IsOneOf x (map rrc_key ks)) none also);
    }

three_more : (past : List Group) (k : Keys)
    → AreDistinct (user_key k ∷ rrc_key k ∷ k.integrity.octets ∷ all_keys past) → AreKeys past
    → AreMore past (k ∷ []) (user_key k ∷ rrc_key k ∷ k.integrity.octets ∷ all_keys past)
three_more past k d h =
    let us = map user_key (keys_given past) in
    let rs = map rrc_key (keys_given past) in
    let users_are = map-append user_key (keys_given past) (k ∷ []) in
    let rrcs_are = map-append rrc_key (keys_given past) (k ∷ []) in
    let user_new : (x : List ℕ) → IsOneOf x (all_keys past) → user_key k ≡ x
    → ⊥ = λ x is same. none_of_them (user_key k) (all_keys past)
    (subst (λ (y : List ℕ). IsOneOf y (all_keys past)) (sym same) is) d.0.1.1 in
    let rrc_new : (x : List ℕ) → IsOneOf x (all_keys past) → rrc_key k ≡ x
    → ⊥ = λ x is same. none_of_them (rrc_key k) (all_keys past)
    (subst (λ (y : List ℕ). IsOneOf y (all_keys past)) (sym same) is) d.1.0.1 in
    record {
      users = λ x is. elim (one_of_either x us (user_key k) (subst (IsOneOf x) users_are is)) [
        | inl there ↦ inr (inr (inr (h.users x there)))
        | inr here ↦ inl here
      ];
      rrcs = λ x is. elim (one_of_either x rs (rrc_key k) (subst (IsOneOf x) rrcs_are is)) [
        | inl there ↦ inr (inr (inr (h.rrcs x there)))
        | inr here ↦ inr (inl here)
      ];
      users_differ =
          subst AreDistinct (sym users_are)
          (distinct_last us (user_key k) h.users_differ (λ is. user_new (user_key k) (h.users (user_key k) is) refl));
      rrcs_differ =
          subst AreDistinct (sym rrcs_are)
          (distinct_last rs (rrc_key k) h.rrcs_differ (λ is. rrc_new (rrc_key k) (h.rrcs (rrc_key k) is) refl));
      apart = λ x is also. elim (one_of_either x us (user_key k) (subst (IsOneOf x) users_are is)) [
        | inl old ↦ elim (one_of_either x rs (rrc_key k) (subst (IsOneOf x) rrcs_are also)) [
          | inl old_too ↦ h.apart x old old_too
          | inr new ↦ rrc_new x (h.users x old) (sym new)
        ]
        | inr new ↦ elim (one_of_either x rs (rrc_key k) (subst (IsOneOf x) rrcs_are also)) [
          | inl old ↦ user_new x (h.rrcs x old) (sym new)
          | inr new_too ↦ d.0.0 (sym new ∙ new_too)
        ]
      ];
    }

more_keys : (line : Line) (past : List Group) → AreDistinct (keys_of line ++ all_keys past) → AreKeys past
    → AreMore past (if gives_keys line then keys_in_force_by line (keys_in_force past) ∷ [] else [])
    (keys_of line ++ all_keys past)
more_keys (lines.Keys keys) past d h = three_more past keys d h
more_keys (lines.Handover user rrc integrity) past d h =
    three_more past (next_keys user rrc integrity (keys_in_force past)) d h
more_keys line past d h = no_more past h

distinct_behind : (xs ys : List (List ℕ)) → AreDistinct (xs ++ ys) → AreDistinct ys
distinct_behind [] ys d = d
distinct_behind (x ∷ xs) ys d = distinct_behind xs ys d.1

pub are_keys : (past : List Group) → AreDistinct (all_keys past) → AreKeys past
are_keys [] d = record {
  users = λ x wrong. wrong;
  rrcs = λ x wrong. wrong;
  users_differ = tt;
  rrcs_differ = tt;
  apart = λ x wrong also. wrong;
}
are_keys (g ∷ past) d =
    let m = more_keys g.line past d (are_keys past (distinct_behind (keys_of g.line) (all_keys past) d)) in
    record {
      users = m.users;
      rrcs = m.rrcs;
      users_differ = m.users_differ;
      rrcs_differ = m.rrcs_differ;
      apart = m.apart;
    }
