-- One line more: what the lines before it spell, and what they spell with it.
use Rattle.std.proofs.Common.{◌≡◌, ◌≢◌, ℕ, suc, ◌+◌, ◌<◌, ◌≤◌, Bool, true, false, cond, List, [], ◌∷◌, ◌++◌, length, map, filter, refl, sym, ap, subst, ◌∙◌, arith, inl, inr, add-zero, zero-add}
use Rattle.std.specs.Prelude.{◌⊎◌, All}
use Rattle.std.specs.List.{list_all, enumerate_from, AllZip, AllPass}
use Rattle.std.proofs.lemmas.List.{length-append, length-map, map-append, append-nil, take_at, drop_at}
use Rattle.std.proofs.lemmas.List.Elements.{All-nil, All-push, All-drop, All-head, All-take, filter-append}
use Rattle.std.proofs.lemmas.List.Sums.{AllPass-from_list_all, list_all-from_AllPass, sum_by-append}
use Rattle.rds_script.specs.declared.script.Placed.{Placed}
use Rattle.rds_script.specs.Text.{is_text, words}
use Rattle.rds_script.specs.Line.{has_command, SpellsHosts}
use Rattle.rds_script.specs.Script.{payload_len, cut_count, payload_total, cut_total}
use Rattle.rds_script.specs.Grammar.{Meaning, nothing, command_lines, SpellsPlaced, SpellsLines, Keeps}
use Rattle.rds_script.proofs.Spelled.{hosts_read}
use Rattle.rds_script.proofs.OneLine.{AddsHosts, AddsCommand, Goes}
use Rattle.rds_script.proofs.OneAnswer.{hosts_has, spelled_has}

-- ---- lists that grow at their end

module _ {A B : Type 0} (R : A → B → Type 0) where
  zip_push : (xs : List A) (ys : List B) (x : A) (y : B) → AllZip R xs ys → R x y → AllZip R (xs ++ x ∷ []) (ys ++ y ∷ [])
  zip_push [] [] x y h r = (r, tt)
  zip_push (a ∷ xs) (b ∷ ys) x y h r = (h.0, zip_push xs ys x y h.1 r)
  zip_push xs ys x y h r = absurd h

  -- the last pair and those before it
  record Last (xs : List A) (x : A) (zs : List B) : Type 0 where
    ys : List B
    y : B
    parts : zs ≡ ys ++ y ∷ []
    front : AllZip R xs ys
    last : R x y

  zip_last : (xs : List A) (x : A) (zs : List B) → AllZip R (xs ++ x ∷ []) zs → Last xs x zs
  zip_last [] x (z ∷ []) h = record { ys = []; y = z; parts = refl; front = tt; last = h.0 }
  zip_last (a ∷ xs) x (z ∷ zs) h =
      let l = zip_last xs x zs h.1 in
      record { ys = z ∷ l.ys; y = l.y; parts = ap (λ (t : List B). z ∷ t) l.parts; front = (h.0, l.front); last = l.last }
  zip_last [] x [] h = absurd h
  zip_last [] x (z ∷ y ∷ zs) h = absurd h.1
  zip_last (a ∷ xs) x [] h = absurd h

  no_pairs : (zs : List B) → AllZip R [] zs → zs ≡ []
  no_pairs [] h = refl
  no_pairs (z ∷ zs) h = absurd h

enumerate-push : {X : Type 0} (n : ℕ) (xs : List X) (y : X) → enumerate_from n (xs ++ y ∷ []) ≡ enumerate_from n xs ++ (n + length xs, y) ∷ []
enumerate-push n [] y = rw add-zero refl
enumerate-push {X} n (x ∷ xs) y =
    let i : (n + 1) + length xs ≡ n + suc (length xs) = omega arith in
    ap (λ (l : List (ℕ × X)). (n, x) ∷ l) (enumerate-push (n + 1) xs y ∙ ap (λ (k : ℕ). enumerate_from (n + 1) xs ++ (k, y) ∷ []) i)

abbrev Line : Type 0
Line = ℕ × List (List ℕ)

abbrev is_command : Line → Bool
is_command l = has_command l.1

command_lines-push : (ls : List (List ℕ)) (l : List ℕ) → command_lines (ls ++ l ∷ []) ≡ command_lines ls ++ cond (has_command (words l)) ((length ls + 1, words l) ∷ []) []
command_lines-push ls l =
    ap (filter is_command) numbered ∙ filter-append is_command (enumerate_from 1 (map words ls)) ((length ls + 1, words l) ∷ [])
  where
    place : 1 + length (map words ls) ≡ length ls + 1
    place = omega (arith, length-map ls words)

    numbered : enumerate_from 1 (map words (ls ++ l ∷ [])) ≡ enumerate_from 1 (map words ls) ++ (length ls + 1, words l) ∷ []
    numbered =
        ap (enumerate_from 1) (map-append words ls (l ∷ [])) ∙ enumerate-push 1 (map words ls) (words l) ∙ ap (λ (k : ℕ). enumerate_from 1 (map words ls) ++ (k, words l) ∷ []) place

skips : (ls : List (List ℕ)) (l : List ℕ) → has_command (words l) ≡ false → command_lines (ls ++ l ∷ []) ≡ command_lines ls
skips ls l has =
    command_lines-push ls l ∙ ap (λ (b : Bool). command_lines ls ++ cond b ((length ls + 1, words l) ∷ []) []) has ∙ append-nil (command_lines ls)

takes : (ls : List (List ℕ)) (l : List ℕ) → has_command (words l) ≡ true → command_lines (ls ++ l ∷ []) ≡ command_lines ls ++ (length ls + 1, words l) ∷ []
takes ls l has =
    command_lines-push ls l ∙ ap (λ (b : Bool). command_lines ls ++ cond b ((length ls + 1, words l) ∷ []) []) has

payload_total-push : (cs : List Placed) (c : Placed) → payload_total (cs ++ c ∷ []) ≡ payload_total cs + payload_len c.command
payload_total-push cs c = sum_by-append (λ (p : Placed). payload_len p.command) cs (c ∷ []) ∙ ap (λ (n : ℕ). payload_total cs + n) (zero-add (payload_len c.command))

cut_total-push : (cs : List Placed) (c : Placed) → cut_total (cs ++ c ∷ []) ≡ cut_total cs + cut_count c.command
cut_total-push cs c = sum_by-append (λ (p : Placed). cut_count p.command) cs (c ∷ []) ∙ ap (λ (n : ℕ). cut_total cs + n) (zero-add (cut_count c.command))

-- the numbers of hosts that a line can say
pub hosts_range : (ws : List (List ℕ)) (n : ℕ) → SpellsHosts ws n → (2 ≤ n) × (n ≤ 8)
hosts_range [] n h = absurd h
hosts_range (w ∷ args) n h = (hosts_read w args n h).range

-- ---- the lines with one more

pub keeps_none : Keeps [] nothing
keeps_none = record { few = omega arith; bytes = All-nil (AllPass is_text); spelled = refl; total = omega arith; cuts = omega arith }

module _ (ls : List (List ℕ)) (s : Meaning) (kept : Keeps ls s) (l : List ℕ) (t : Meaning) where
  few_more : length ls ≢ 200000 → length (ls ++ l ∷ []) ≤ 200000
  few_more number = let f = kept.few in omega (arith, length-append ls (l ∷ []))

  bytes_more : list_all is_text l ≡ true → All (AllPass is_text) (ls ++ l ∷ [])
  bytes_more text = All-push (AllPass is_text) ls l kept.bytes (AllPass-from_list_all is_text l text)

  with_skipped : length ls ≢ 200000 → list_all is_text l ≡ true → has_command (words l) ≡ false → t ≡ s → Keeps (ls ++ l ∷ []) t
  with_skipped number text has is = record {
    few = few_more number;
    bytes = bytes_more text;
    spelled = subst (λ (x : List Line). SpellsLines x t) (sym (skips ls l has)) (subst (SpellsLines (command_lines ls)) (sym is) kept.spelled);
    total = subst (λ (m : Meaning). payload_total m.commands ≤ 16777216) (sym is) kept.total;
    cuts = subst (λ (m : Meaning). cut_total m.commands ≤ 1024) (sym is) kept.cuts;
  }

  with_hosts : length ls ≢ 200000 → list_all is_text l ≡ true → has_command (words l) ≡ true → AddsHosts s (length ls + 1) (words l) t → Keeps (ls ++ l ∷ []) t
  with_hosts number text has a = subst (Keeps (ls ++ l ∷ [])) (sym a.is) (go (command_lines ls) refl kept.spelled)
    where
      u : Meaning
      u = record s { hosts = a.number; hosts_line = length ls + 1 }

      no_commands : (x : List Line) → SpellsLines x s → (x ≡ []) × (s.commands ≡ [])
      no_commands [] is = (refl, ap (λ (m : Meaning). m.commands) is)
      no_commands (f ∷ os) sp = let r = hosts_range f.1 s.hosts sp.1 in let z = a.none in absurd (omega arith)

      go : (x : List Line) → command_lines ls ≡ x → SpellsLines x s → Keeps (ls ++ l ∷ []) (record s { hosts = a.number; hosts_line = length ls + 1 })
      go x e sp =
          let n = no_commands x sp in
          let lines-is : command_lines (ls ++ l ∷ []) ≡ (length ls + 1, words l) ∷ [] = takes ls l has ∙ ap (λ (c : List Line). c ++ (length ls + 1, words l) ∷ []) (e ∙ n.0) in
          record {
            few = few_more number;
            bytes = bytes_more text;
            spelled = subst (λ (y : List Line). SpellsLines y u) (sym lines-is) (refl, a.spelled, subst (AllZip (SpellsPlaced a.number) []) (sym n.1) tt);
            total = kept.total;
            cuts = kept.cuts;
          }

  with_command : length ls ≢ 200000 → list_all is_text l ≡ true → has_command (words l) ≡ true → AddsCommand s (length ls + 1) (words l) t → Keeps (ls ++ l ∷ []) t
  with_command number text has a = subst (Keeps (ls ++ l ∷ [])) (sym a.is) (go (command_lines ls) refl kept.spelled)
    where
      p : Placed
      p = record { line = length ls + 1; command = a.command }

      u : Meaning
      u = record s { commands = s.commands ++ p ∷ [] }

      go : (x : List Line) → command_lines ls ≡ x → SpellsLines x s → Keeps (ls ++ l ∷ []) (record s { commands = s.commands ++ record { line = length ls + 1; command = a.command } ∷ [] })
      go [] e sp = absurd (a.some (ap (λ (m : Meaning). m.hosts) sp))
      go (f ∷ os) e sp =
          let lines-is : command_lines (ls ++ l ∷ []) ≡ f ∷ (os ++ (length ls + 1, words l) ∷ []) = takes ls l has ∙ ap (λ (c : List Line). c ++ (length ls + 1, words l) ∷ []) e in
          record {
            few = few_more number;
            bytes = bytes_more text;
            spelled = subst (λ (y : List Line). SpellsLines y u) (sym lines-is) (sp.0, sp.1, zip_push (SpellsPlaced s.hosts) os s.commands (length ls + 1, words l) p sp.2 (refl, a.spelled));
            total = let e = payload_total-push s.commands p in let le = a.total in omega arith;
            cuts = let e = cut_total-push s.commands p in let le = a.cuts in omega arith;
          }

pub keeps_push : (ls : List (List ℕ)) (s : Meaning) → Keeps ls s → (l : List ℕ) (t : Meaning) → Goes s (length ls) l t → Keeps (ls ++ l ∷ []) t
keeps_push ls s kept l t g = go g.step
  where
    go : ((has_command (words l) ≡ false) × (t ≡ s)) ⊎ (AddsHosts s (length ls + 1) (words l) t ⊎ AddsCommand s (length ls + 1) (words l) t) → Keeps (ls ++ l ∷ []) t
    go (inl x) = with_skipped ls s kept l t g.number g.text x.0 x.1
    go (inr (inl a)) = with_hosts ls s kept l t g.number g.text (hosts_has (words l) a.number a.spelled) a
    go (inr (inr a)) = with_command ls s kept l t g.number g.text (spelled_has s.hosts (words l) a.command a.spelled) a

-- ---- the lines without the last

pub record Before (ls : List (List ℕ)) (l : List ℕ) (t : Meaning) : Type 0 where
  pub so_far : Meaning
  pub kept : Keeps ls so_far
  pub goes : Goes so_far (length ls) l t

module _ (ls : List (List ℕ)) (l : List ℕ) (t : Meaning) (all : Keeps (ls ++ l ∷ []) t) where
  few_before : length ls < 200000
  few_before = let f = all.few in omega (arith, length-append ls (l ∷ []))

  number_before : length ls ≢ 200000
  number_before e = let f = few_before in absurd (omega arith)

  bytes_before : All (AllPass is_text) ls
  bytes_before =
      subst (All (AllPass is_text)) (take_at ls (l ∷ []) (length ls) refl) (All-take (AllPass is_text) (length ls) (ls ++ l ∷ []) all.bytes)

  text_here : list_all is_text l ≡ true
  text_here =
      let last = subst (All (AllPass is_text)) (drop_at ls (l ∷ []) (length ls) refl) (All-drop (AllPass is_text) (length ls) (ls ++ l ∷ []) all.bytes) in
      list_all-from_AllPass is_text l (All-head (AllPass is_text) l [] last)

  before_skipped : has_command (words l) ≡ false → Before ls l t
  before_skipped has = record {
    so_far = t;
    kept = record {
      few = let f = few_before in omega arith;
      bytes = bytes_before;
      spelled = subst (λ (x : List Line). SpellsLines x t) (skips ls l has) all.spelled;
      total = all.total;
      cuts = all.cuts;
    };
    goes = record { number = number_before; text = text_here; step = inl (has, refl) };
  }

  before_command : has_command (words l) ≡ true → Before ls l t
  before_command has =
      go (command_lines ls) refl (subst (λ (x : List Line). SpellsLines x t) (takes ls l has) all.spelled)
    where
      go : (x : List Line) → command_lines ls ≡ x → SpellsLines (x ++ (length ls + 1, words l) ∷ []) t → Before ls l t
      go [] e sp =
          let empty = no_pairs (SpellsPlaced t.hosts) t.commands sp.2 in
          record {
            so_far = nothing;
            kept = record {
              few = let f = few_before in omega arith;
              bytes = bytes_before;
              spelled = subst (λ (x : List Line). SpellsLines x nothing) (sym e) refl;
              total = omega arith;
              cuts = omega arith;
            };
            goes = record {
              number = number_before;
              text = text_here;
              step = inr (inl (record {
                none = refl;
                number = t.hosts;
                spelled = sp.1;
                is = ap (λ (n : ℕ). record t { hosts_line = n }) sp.0 ∙ ap (λ (c : List Placed). record { hosts = t.hosts; hosts_line = length ls + 1; commands = c }) empty;
              }));
            };
          }
      go (f ∷ os) e sp =
          let z = zip_last (SpellsPlaced t.hosts) os (length ls + 1, words l) t.commands sp.2 in
          let total-is : payload_total t.commands ≡ payload_total z.ys + payload_len z.y.command = ap payload_total z.parts ∙ payload_total-push z.ys z.y in
          let cuts-are : cut_total t.commands ≡ cut_total z.ys + cut_count z.y.command = ap cut_total z.parts ∙ cut_total-push z.ys z.y in
          let total-fits = all.total in
          let cuts-fit = all.cuts in
          record {
            so_far = record t { commands = z.ys };
            kept = record {
              few = let f = few_before in omega arith;
              bytes = bytes_before;
              spelled = subst (λ (x : List Line). SpellsLines x (record t { commands = z.ys })) (sym e) (sp.0, sp.1, z.front);
              total = omega arith;
              cuts = omega arith;
            };
            goes = record {
              number = number_before;
              text = text_here;
              step = inr (inr (record {
                some = λ zero-hosts. let r = hosts_range f.1 t.hosts sp.1 in absurd (omega arith);
                command = z.y.command;
                spelled = z.last.1;
                total = omega arith;
                cuts = omega arith;
                is = ap (λ (c : List Placed). record t { commands = c }) z.parts ∙ ap (λ (n : ℕ). record t { commands = z.ys ++ record z.y { line = n } ∷ [] }) z.last.0;
              }));
            };
          }

pub keeps_before : (ls : List (List ℕ)) (l : List ℕ) (t : Meaning) → Keeps (ls ++ l ∷ []) t → Before ls l t
keeps_before ls l t all = go (has_command (words l)) refl
  where
    go : (b : Bool) → has_command (words l) ≡ b → Before ls l t
    go true has = before_command ls l t all has
    go false has = before_skipped ls l t all has
