-- Items of lists that grow.
use Rattle.std.proofs.Common.{◌≡◌, ◌∙◌, ◌++◌, ℕ, suc, ◌<◌, ◌+◌, ◌&&◌, not, Bool, false, Option, Some, None, is_some, List, get_or, length, map, take, [], ◌∷◌, sym, ap, refl, append_assoc}
use Rattle.std.specs.Prelude.{unwrap_or}
use Rattle.std.proofs.lemmas.Bool.{true≢false}
use Rattle.std.proofs.lemmas.List.{append-nil, map-append, take_more}
use Rattle.std.proofs.Math.Seq.{take-append_seam}
use Rattle.std.specs.List.{flat_map}
use Rattle.std.proofs.lemmas.Grind.{flat_map-append}
use Rattle.rds_model.specs.declared.entry.Entry.{Entry}
use Rattle.rds_model.specs.declared.entry.Entry.TheVariants.{Accept, Cancel, Open, Pull, Read, Shut, Bad}
use Rattle.rds_model.specs.Past.{accepted}
use Rattle.rds_report.specs.declared.item.Group.{Group as Key}
use Rattle.rds_report.specs.Item.{Item}
use Rattle.rds_model.specs.Streams.{was_passed}
use Rattle.rds_report.specs.Items.{acceptance_items, acceptance_pair, came_items, arrival_items, has_cancellation, is_lost, sent_items, accepted_items}
use Rattle.rds_report.proofs.Walked.{untaken}

came_one : (from to : ℕ) (e : Entry) (past : List Entry) →
    came_items from to past ++ arrival_items from to e ≡ came_items from to (e ∷ past)
came_one from to (Read stream frame outcome) past = refl
came_one from to (Accept slot sport dport payload) past = append-nil (came_items from to past)
came_one from to (Cancel slot target) past = append-nil (came_items from to past)
came_one from to (Open stream) past = append-nil (came_items from to past)
came_one from to (Pull stream frame) past = append-nil (came_items from to past)
came_one from to (Shut stream) past = append-nil (came_items from to past)
came_one from to (Bad stream header cause) past = append-nil (came_items from to past)

pub came_more : (from to : ℕ) (e : Entry) (past : List Entry) (old now : List Item) → now ≡ old ++ came_items from to past →
    now ++ arrival_items from to e ≡ old ++ came_items from to (e ∷ past)
came_more from to e past old now is =
    ap (λ (l : List Item). l ++ arrival_items from to e) is
    ∙ append_assoc old (came_items from to past) (arrival_items from to e)
    ∙ ap (λ (l : List Item). old ++ l) (came_one from to e past)

-- an acceptance, by its pair
pub accepted_accept : (from to : ℕ) (e : Entry) (k : Key) (past : List Entry) → acceptance_pair from to e ≡ Some k → accepted (e ∷ past) ≡ suc (accepted past)
accepted_accept from to (Accept slot sport dport payload) k past pair = refl
accepted_accept from to _ k past pair = absurd (true≢false (sym (ap is_some pair)))

pub sent_accept : (from to : ℕ) (lost : ℕ → Bool) (e : Entry) (k : Key) (past : List Entry) (old now : List Item) →
    acceptance_pair from to e ≡ Some k → now ≡ old ++ sent_items from to lost past →
    now ++ accepted_items k.from k.to k.sport k.dport (lost (suc (accepted past))) ≡ old ++ sent_items from to lost (e ∷ past)
sent_accept from to lost (Accept slot sport dport payload) k past old now pair is =
    let number = suc (accepted past) in
    ap (λ (o : Option Key). let g = unwrap_or o k in now ++ accepted_items g.from g.to g.sport g.dport (lost number)) (sym pair)
    ∙ ap (λ (l : List Item). l ++ accepted_items from to sport dport (lost number)) is
    ∙ append_assoc old (sent_items from to lost past) (accepted_items from to sport dport (lost number))
sent_accept from to lost _ k past old now pair is = absurd (true≢false (sym (ap is_some pair)))

-- any other entry
pub accepted_other : (from to : ℕ) (e : Entry) (past : List Entry) → acceptance_pair from to e ≡ None → accepted (e ∷ past) ≡ accepted past
accepted_other from to (Accept slot sport dport payload) past none = absurd (true≢false (ap is_some none))
accepted_other from to _ past none = refl

pub sent_other : (from to : ℕ) (lost : ℕ → Bool) (e : Entry) (past : List Entry) → acceptance_pair from to e ≡ None →
    sent_items from to lost (e ∷ past) ≡ sent_items from to lost past
sent_other from to lost (Accept slot sport dport payload) past none = absurd (true≢false (ap is_some none))
sent_other from to lost _ past none = refl

-- an entry of a journal in which nothing is lost
sent_one : (from to : ℕ) (e : Entry) (past : List Entry) →
    sent_items from to (λ n. false) past ++ acceptance_items from to e ≡ sent_items from to (λ n. false) (e ∷ past)
sent_one from to (Accept slot sport dport payload) past = refl
sent_one from to (Read stream frame outcome) past = append-nil (sent_items from to (λ n. false) past)
sent_one from to (Cancel slot target) past = append-nil (sent_items from to (λ n. false) past)
sent_one from to (Open stream) past = append-nil (sent_items from to (λ n. false) past)
sent_one from to (Pull stream frame) past = append-nil (sent_items from to (λ n. false) past)
sent_one from to (Shut stream) past = append-nil (sent_items from to (λ n. false) past)
sent_one from to (Bad stream header cause) past = append-nil (sent_items from to (λ n. false) past)

pub sent_more : (from to : ℕ) (e : Entry) (past : List Entry) (old now : List Item) → now ≡ old ++ sent_items from to (λ n. false) past →
    now ++ acceptance_items from to e ≡ old ++ sent_items from to (λ n. false) (e ∷ past)
sent_more from to e past old now is =
    ap (λ (l : List Item). l ++ acceptance_items from to e) is
    ∙ append_assoc old (sent_items from to (λ n. false) past) (acceptance_items from to e)
    ∙ ap (λ (l : List Item). old ++ l) (sent_one from to e past)

-- tests that agree give the same items
sent_same : (from to : ℕ) (t u : ℕ → Bool) → ((n : ℕ) → t n ≡ u n) → (past : List Entry) → sent_items from to t past ≡ sent_items from to u past
sent_same from to t u same [] = refl
sent_same from to t u same (Accept slot sport dport payload ∷ past) =
    ap (λ (l : List Item). l ++ accepted_items from to sport dport (t (suc (accepted past)))) (sent_same from to t u same past)
    ∙ ap (λ (b : Bool). sent_items from to u past ++ accepted_items from to sport dport b) (same (suc (accepted past)))
sent_same from to t u same (Read stream frame outcome ∷ past) = sent_same from to t u same past
sent_same from to t u same (Cancel slot target ∷ past) = sent_same from to t u same past
sent_same from to t u same (Open stream ∷ past) = sent_same from to t u same past
sent_same from to t u same (Pull stream frame ∷ past) = sent_same from to t u same past
sent_same from to t u same (Shut stream ∷ past) = sent_same from to t u same past
sent_same from to t u same (Bad stream header cause ∷ past) = sent_same from to t u same past

-- without a cancellation nothing is lost
pub none_lost : (from to : ℕ) (past back : List Entry) → has_cancellation past ≡ false →
    sent_items from to (λ n. false) past ≡ sent_items from to (is_lost past back) past
none_lost from to past back without =
    sent_same from to (λ n. false) (is_lost past back) (λ n. ap (λ (x : Bool). x && not (was_passed back n)) (sym (untaken past without n))) past

-- what stood in front stays there
pub front_stays : {X : Type 0} (old now more : List X) → now ≡ old ++ more → take (length old) now ≡ old
front_stays old now more is = ap (take (length old)) is ∙ take-append_seam old more

-- the element of a turn of a loop
pub take_item : {X : Type 0} (xs : List X) (i : ℕ) (x : X) → i < length xs → x ≡ get_or xs i x → take (i + 1) xs ≡ take i xs ++ x ∷ []
take_item {X} xs i x below is = take_more xs i x below ∙ ap (λ (y : X). take i xs ++ y ∷ []) (sym is)

-- two parts are added to what there was
pub two_more : {A X Y : Type 0} (f : Y → List A) (g : X → Y) (xs : List X) (i : ℕ) (x : X) (old now mid new a b : List A) →
    i < length xs → x ≡ get_or xs i x → now ≡ old ++ flat_map f (map g (take i xs)) → mid ≡ now ++ a → new ≡ mid ++ b →
    f (g x) ≡ a ++ b → new ≡ old ++ flat_map f (map g (take (i + 1) xs))
two_more {A} {X} {Y} f g xs i x old now mid new a b below is had first second parts =
    let block = flat_map f (map g (take i xs)) in
    let grown : flat_map f (map g (take (i + 1) xs)) ≡ block ++ (a ++ b) =
    ap (λ (l : List X). flat_map f (map g l)) (take_item xs i x below is)
    ∙ ap (flat_map f) (map-append g (take i xs) (x ∷ []))
    ∙ flat_map-append f (map g (take i xs)) (g x ∷ [])
    ∙ ap (λ (l : List A). block ++ l) (append-nil (f (g x)) ∙ parts) in
    second ∙ ap (λ (l : List A). l ++ b) first ∙ append_assoc now a b ∙ ap (λ (l : List A). l ++ (a ++ b)) had
    ∙ append_assoc old block (a ++ b) ∙ ap (λ (l : List A). old ++ l) (sym grown)

-- one part is added to what there was
pub one_more : {A X Y : Type 0} (f : Y → List A) (g : X → Y) (xs : List X) (i : ℕ) (x : X) (old now new a : List A) →
    i < length xs → x ≡ get_or xs i x → now ≡ old ++ flat_map f (map g (take i xs)) → new ≡ now ++ a →
    f (g x) ≡ a → new ≡ old ++ flat_map f (map g (take (i + 1) xs))
one_more f g xs i x old now new a below is had added part =
    two_more f g xs i x old now new new a [] below is had added (sym (append-nil new)) (part ∙ sym (append-nil a))
