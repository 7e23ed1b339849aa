-- How the missing names are said, one after another.
use Rattle.std.proofs.Common.{◌≡◌, ℕ, ◌+◌, ◌<◌, Bool, true, false, not, cond, List, [], ◌∷◌, ◌++◌, length, get_or, take, refl, sym, ap, ◌∙◌, append_assoc}
use Rattle.std.specs.Prelude.{codes}
use Rattle.std.proofs.lemmas.List.{append-nil, flat_map_more}
use Rattle.std.proofs.lemmas.List.Elements.{filter_more}
use Rattle.app_explain.specs.declared.peers.Sender.{Sender}
use Rattle.app_text.specs.Shown.{shown_name}
use Rattle.app_text.specs.Texts.{Says, Written}
use Rattle.app_explain.specs.Peers.{before_next, is_sent, missing, missing_names}
use Rattle.app_text.proofs.Columns.{two_parts}

missing_more : (senders : List Sender) (ns : List (List ℕ)) (i : ℕ) → i < length ns → (sent : Bool)
    → is_sent senders (get_or ns i []) ≡ sent → missing senders (take (i + 1) ns) ≡ missing senders (take i ns)
    ++ cond (not sent) (get_or ns i [] ∷ []) []
missing_more senders ns i below sent e =
    filter_more (λ name. not (is_sent senders name)) ns i [] below
    ∙ ap (λ t. missing senders (take i ns) ++ cond (not t) (get_or ns i [] ∷ []) []) e

named_more : (ms : List (List ℕ)) (name : List ℕ)
    → missing_names (ms ++ name ∷ []) ≡ missing_names ms ++ (before_next ms ++ shown_name name)
named_more [] name = append-nil (codes "Missing: " ++ shown_name name)
named_more (m ∷ ms) name =
    sym (flat_map_more (λ other. codes ", " ++ shown_name other) (codes "Missing: " ++ shown_name m) ms name)

before_more : (ms : List (List ℕ)) (name : List ℕ) → before_next (ms ++ name ∷ []) ≡ codes ", "
before_more [] name = refl
before_more (m ∷ ms) name = refl

bytes_put : (senders : List Sender) (ns : List (List ℕ)) (i : ℕ) (name : List ℕ) → i < length ns
    → name ≡ get_or ns i [] → is_sent senders name ≡ false → (initial out mid new said next : List ℕ)
    → said ≡ before_next (missing senders (take i ns))
    → out ≡ initial ++ missing_names (missing senders (take i ns)) → mid ≡ out ++ said → new ≡ mid ++ shown_name name
    → next ≡ codes ", " → (next ≡ before_next (missing senders (take (i + 1) ns)))
    × (new ≡ initial ++ missing_names (missing senders (take (i + 1) ns)))
bytes_put senders ns i name below en unsent initial out mid new said next esaid eo em enew enext =
    let before = missing senders (take i ns) in
    let more : missing senders (take (i + 1) ns) ≡ before ++ name ∷ [] =
    missing_more senders ns i below false (ap (is_sent senders) (sym en) ∙ unsent)
    ∙ ap (λ n. before ++ n ∷ []) (sym en) in (
      enext ∙ sym (ap before_next more ∙ before_more before name),
      two_parts out mid new said (shown_name name) em enew ∙ ap (λ ys. ys ++ (said ++ shown_name name)) eo
          ∙ append_assoc initial (missing_names before) (said ++ shown_name name)
          ∙ ap (λ ys. initial ++ ys) (ap (λ ys. missing_names before ++ (ys ++ shown_name name)) esaid
          ∙ sym (named_more before name) ∙ ap missing_names (sym more)),
    )

-- a name of which no stream is sent is said
pub name_said : (senders : List Sender) (ns : List (List ℕ)) (i : ℕ) (name : List ℕ) → i < length ns
    → name ≡ get_or ns i [] → is_sent senders name ≡ false → (initial out mid new : Written) (said next : List ℕ)
    → said ≡ before_next (missing senders (take i ns))
    → Says (missing_names (missing senders (take i ns))) initial out → Says said out mid
    → Says (shown_name name) mid new → next ≡ codes ", "
    → (next ≡ before_next (missing senders (take (i + 1) ns)))
    × Says (missing_names (missing senders (take (i + 1) ns))) initial new
name_said senders ns i name below en unsent initial out mid new said next esaid so sm snew enext =
    let more : missing senders (take (i + 1) ns) ≡ missing senders (take i ns) ++ name ∷ [] =
    missing_more senders ns i below false (ap (is_sent senders) (sym en) ∙ unsent)
    ∙ ap (λ n. missing senders (take i ns) ++ n ∷ []) (sym en) in (
      enext ∙ sym (ap before_next more ∙ before_more (missing senders (take i ns)) name),
      λ whole.
          let last = snew whole in
          let middle = sm last.0 in
          let first = so middle.0 in (
            first.0,
            (bytes_put senders ns i name below en unsent initial.bytes out.bytes mid.bytes new.bytes said next esaid
                first.1 middle.1 last.1 enext).1,
          ),
    )

-- each other one isn't
pub name_left : (senders : List Sender) (ns : List (List ℕ)) (i : ℕ) (name : List ℕ) → i < length ns
    → name ≡ get_or ns i [] → is_sent senders name ≡ true
    → missing senders (take (i + 1) ns) ≡ missing senders (take i ns)
name_left senders ns i name below en sent =
    missing_more senders ns i below true (ap (is_sent senders) (sym en) ∙ sent)
    ∙ append-nil (missing senders (take i ns))
