-- Where quotes stand in a text of JSON.
use Rattle.std.proofs.Common.{◌≡◌, ℕ, zero, suc, ◌<◌, ◌≤◌, List, [], ◌∷◌, ◌++◌, true, Some, ◌⊎◌, inl, inr, refl, sym, ap, ◌∙◌, subst, append_assoc, arith}
use Rattle.std.specs.Prelude.{◌==◌, not}
use Rattle.std.specs.List.{list_all}
use Rattle.std.proofs.lemmas.Bool.{and_parts, cases_eq, cases_lt, ne_eqb}
use Rattle.std.proofs.lemmas.List.{append_cancel_right}
use Rattle.json.specs.Print.{escape, escape_byte}
use Rattle.json.specs.Text.{content, plain}
use Rattle.json.proofs.Printed.Strings.{content-escape, escape_byte_plain}
use Rattle.def_format.proofs.OneReport.{Lacks, all-append}

-- ---- what is escaped

EachLacks : ℕ → Type 0
EachLacks zero = Unit {0}
EachLacks (suc n) = Lacks 34 (escape_byte n) × EachLacks n

one_of_each : (n : ℕ) → EachLacks n → (x : ℕ) → x < n → Lacks 34 (escape_byte x)
unfolding EachLacks
one_of_each zero h x lt = absurd (omega arith)
one_of_each (suc n) h x lt = go (one_of_each n h.1 x) (cases_eq x n)
  where
    go : (x < n → Lacks 34 (escape_byte x)) → (x ≡ n) ⊎ (x ≡ n → ⊥) → Lacks 34 (escape_byte x)
    go below (inl e) = subst (λ (y : ℕ). Lacks 34 (escape_byte y)) (sym e) h.0
    go below (inr other) = below (omega arith)

controls : EachLacks 32
unfolding EachLacks escape_byte
controls = (
  refl,
  (
    refl,
    (
      refl,
      (
        refl,
        (
          refl,
          (
            refl,
            (
              refl,
              (
                refl,
                (
                  refl,
                  (
                    refl,
                    (
                      refl,
                      (
                        refl,
                        (
                          refl,
                          (
                            refl,
                            (
                              refl,
                              (
                                refl,
                                (
                                  refl,
                                  (
                                    refl,
                                    (
                                      refl,
                                      (
                                        refl,
                                        (
                                          refl,
                                          (
                                            refl,
                                            (
                                              refl,
                                              (
                                                refl,
                                                (
                                                  refl,
                                                  (
                                                    refl,
                                                    (
                                                      refl,
                                                      (
                                                        refl,
                                                        (
                                                          refl,
                                                          (
                                                            refl,
                                                            (
                                                              refl,
                                                              (
                                                                refl,
                                                                tt,
                                                              ),
                                                            ),
                                                          ),
                                                        ),
                                                      ),
                                                    ),
                                                  ),
                                                ),
                                              ),
                                            ),
                                          ),
                                        ),
                                      ),
                                    ),
                                  ),
                                ),
                              ),
                            ),
                          ),
                        ),
                      ),
                    ),
                  ),
                ),
              ),
            ),
          ),
        ),
      ),
    ),
  ),
)

backslash : Lacks 34 (escape_byte 92)
unfolding escape_byte
backslash = refl

byte_lacks : (x : ℕ) → (x ≡ 34 → ⊥) → Lacks 34 (escape_byte x)
byte_lacks x other = go (cases_eq x 92) (cases_lt x 32)
  where
    go : (x ≡ 92) ⊎ (x ≡ 92 → ⊥) → (x < 32) ⊎ (32 ≤ x) → Lacks 34 (escape_byte x)
    go (inl e) c = subst (λ (y : ℕ). Lacks 34 (escape_byte y)) (sym e) backslash
    go (inr b) (inl c) = one_of_each 32 controls x c
    go (inr b) (inr l) = rw (escape_byte_plain x other b l, ne_eqb x 34 other) refl

-- a text without quotes has none when it is escaped
pub escape_lacks : (s : List ℕ) → Lacks 34 s → Lacks 34 (escape s)
escape_lacks [] h = refl
escape_lacks (x ∷ s) h =
    let parts = and_parts (not (x == 34)) (list_all (λ b. not (b == 34)) s) h in
    all-append (λ b. not (b == 34)) (escape_byte x) (escape s) (byte_lacks x (differs parts.0))
    (escape_lacks s parts.1)
  where
    differs : not (x == 34) ≡ true → x ≡ 34 → ⊥
    differs apart e = let bad = rw e at apart in cc

-- no two texts are the same when they are escaped
pub one_escaped : (s t : List ℕ) → escape s ≡ escape t → s ≡ t
one_escaped s t e =
    let same : Some s ≡ Some t =
    sym (content-escape s []) ∙ ap (λ bytes. content plain (bytes ++ 34 ∷ [])) e ∙ content-escape t [] in cc

-- ---- what stands after the last quote

not_there : (before after : List ℕ) → Lacks 34 (before ++ 34 ∷ after) → ⊥
not_there [] after h = cc
not_there (x ∷ before) after h =
    not_there before after
    (and_parts (not (x == 34)) (list_all (λ b. not (b == 34)) (before ++ 34 ∷ after)) h).1

pub one_end : (before other end end' : List ℕ) → Lacks 34 end → Lacks 34 end' → before ++ 34 ∷ end ≡ other ++ 34 ∷ end'
    → end ≡ end'
one_end [] [] end end' h k e = cc
one_end [] (y ∷ other) end end' h k e =
    let rest : end ≡ other ++ 34 ∷ end' = cc in absurd (not_there other end' (rw rest at h))
one_end (x ∷ before) [] end end' h k e =
    let rest : before ++ 34 ∷ end ≡ end' = cc in absurd (not_there before end (rw (← rest) at k))
one_end (x ∷ before) (y ∷ other) end end' h k e =
    let rest : before ++ 34 ∷ end ≡ other ++ 34 ∷ end' = cc in one_end before other end end' h k rest

-- the text ends with this string, and with the object's bracket
pub record EndsWith (s text : List ℕ) : Type 0 where
  pub before : List ℕ
  pub ends : text ≡ before ++ 34 ∷ (escape s ++ 34 ∷ 125 ∷ [])

-- the string with which an object ends and an LF follows
pub one_last_string : (s t text other : List ℕ) → Lacks 34 s → Lacks 34 t → EndsWith s text → EndsWith t other
    → text ++ 10 ∷ [] ≡ other ++ 10 ∷ [] → s ≡ t
one_last_string s t text other h k e f same =
    one_escaped s t (one_end e.before f.before (escape s) (escape t) (escape_lacks s h) (escape_lacks t k)
    (append_cancel_right (e.before ++ 34 ∷ escape s) (f.before ++ 34 ∷ escape t) (34 ∷ 125 ∷ [])
    (regroup e.before (escape s) ∙ sym e.ends ∙ append_cancel_right text other (10 ∷ []) same ∙ f.ends
    ∙ sym (regroup f.before (escape t)))))
  where
    regroup : (before end : List ℕ) → (before ++ 34 ∷ end) ++ 34 ∷ 125 ∷ [] ≡ before ++ 34 ∷ (end ++ 34 ∷ 125 ∷ [])
    regroup before end = append_assoc before (34 ∷ end) (34 ∷ 125 ∷ [])
