-- What is left of the hosts of a run, one after the other.
use Rattle.std.proofs.Common.{◌≡◌, ◌<◌, ◌+◌, ℕ, zero, suc, List, [], ◌∷◌, ◌++◌, Some, inl, inr, get_or, length, map, slice_get, Result, Ok, Err, IfOk, OnOk, Vec, refl, sym, ap, subst, ◌∙◌, arith}
use Rattle.std.specs.Global.{Global}
use Rattle.std.specs.List.{zip}
use Rattle.std.specs.Result.{result_and}
use Rattle.std.proofs.lemmas.Bool.{cases_lt}
use Rattle.std.proofs.lemmas.List.{length_push}
use Rattle.std.proofs.lemmas.Option.{same_Some, slice_get_within}
use Rattle.rds_wire.specs.declared.memory.Memory.{Memory}
use Rattle.rds_fmap.specs.Readers.{ReaderView, WriterView}
use Rattle.rds_line.specs.Line.{LineView}
use Rattle.rds_host_end.specs.Sides.{line_side}
use Rattle.rds_text.specs.Hosts.{address_of}
use Rattle.rds_text.specs.FinalViews.{side_view, socket_view}
use Rattle.rds_text.specs.declared.final_state.HostEnd.{HostEnd}
use Rattle.rds_text.specs.declared.final_state.Kept.{Kept}
use Rattle.rds_run_callers.specs.Places.{CallerView, Place}
use Rattle.rds_host_end.specs.Cuts.{AreCutsOfSlots}
use Rattle.rds_host_end.specs.Grounded.{AreMapsGrounded}
use Rattle.rds_host_end.specs.Joined.{AreJoined, AreLooksOfJournals}
use Rattle.rds_host_end.specs.Owned.{AreFound, AreOwned}
use Rattle.rds_socket.specs.Holding.{Holding}
use Rattle.rds_run_settling.specs.Tied.{AreSlotsTold}
use Rattle.rds_run_threads.specs.Settled.{AreKeptOf, AreLeftOf, HasEnded, HasHeard, HasSettled, HaveAllGone, IsLeftOf}
use Rattle.rds_run_threads.proofs.At.{one_at}
use Rattle.rds_run_threads.proofs.Filled.{all_grounded}
use Rattle.rds_run_threads.proofs.Outcome.{all_cut, all_looked, all_sent, kept_of}
use Rattle.rds_run_threads.proofs.Owning.{found_sockets, went_to_sockets}
use Rattle.rds_run_threads.proofs.Receiving.{received_of}

module _ {E : Type 0} where
  -- what is left of so many hosts
  pub record AreLeftBelow (count : ℕ) (callers : List CallerView) (rows : List (List (LineView E WriterView))) (ends : List HostEnd) : Type 0 where
    pub number : length ends ≡ count
    pub each : (host : ℕ) (caller : CallerView) (row : List (LineView E WriterView)) (end : HostEnd) → slice_get callers host ≡ Some caller →
        slice_get rows host ≡ Some row → slice_get ends host ≡ Some end → IsLeftOf host caller.places row end

  -- all hosts were gone through
  pub all_left : (count : ℕ) (callers : List CallerView) (rows : List (List (LineView E WriterView))) (ends : List HostEnd) → count ≡ length rows →
      AreLeftBelow count callers rows ends → AreLeftOf callers rows ends
  all_left count callers rows ends is all = record { count = all.number ∙ is; each = all.each }

  -- what is left of a host whose slots were told and then ended, by what was joined of their ends and its lines
  pub gathered : (host addr : ℕ) (places told : List Place) (left : Vec Kept Global × Vec (Holding ReaderView) Global) (lines : List (LineView E WriterView))
      (result : Result HostEnd Memory) → addr ≡ address_of host → HasSettled places lines → HasHeard places told lines → HasEnded told left →
      AreSlotsTold left.1.items lines → IfOk result (λ end. end.addr ≡ addr) → IfOk result (λ end. map side_view end.journals.items ≡ map line_side lines) →
      IfOk result (λ end. end.kept ≡ left.0) → OnOk result (AreJoined left.1.items lines) → OnOk result (AreLooksOfJournals left.1.items lines) →
      OnOk result (AreOwned left.1.items lines) → OnOk result (AreFound left.1.items lines) → OnOk result (AreMapsGrounded left.1.items lines) →
      OnOk result (AreCutsOfSlots left.1.items lines) → IfOk result (IsLeftOf host places lines)
  gathered host addr places told left lines (Ok end) at settled heard ended boxes is sides same joined looks owned found grounded cut =
      let closed = left.1.items in record {
        addr = is ∙ at;
        journals = sides;
        received = received_of told closed lines joined settled.some boxes end left.0 sides same ended.kept.each;
        sent = all_sent places told closed lines heard.hear ended.slots joined settled.told settled.quiet;
        looked = all_looked places told closed lines heard.hear ended.slots looks;
        cut = all_cut places told closed lines heard.hear ended.slots cut settled.told settled.quiet;
        grounded = all_grounded places told closed lines heard.hear ended.slots grounded;
        gone = subst (λ (v : Vec Kept Global). HaveAllGone lines (map socket_view v.items)) (sym same)
            (went_to_sockets told closed lines left.0.items heard.tied.passes.places ended.slots.count owned ended.ports ended.kept.names);
        found = found_sockets places told closed lines heard.hear ended.slots ended.ports found;
        kept = subst (λ (v : Vec Kept Global). AreKeptOf places v.items) (sym same) (kept_of places told closed left.0.items heard.hear ended.kept);
      }
  gathered host addr places told left lines (Err e) at settled heard ended boxes is sides same joined looks owned found grounded cut = tt

  -- and of one more
  pub one_left : (count : ℕ) (callers : List CallerView) (rows : List (List (LineView E WriterView))) (ends more : List HostEnd) (caller : CallerView)
      (row : List (LineView E WriterView)) (end : HostEnd) → slice_get callers count ≡ Some caller → slice_get rows count ≡ Some row →
      AreLeftBelow count callers rows ends → IsLeftOf count caller.places row end → more ≡ ends ++ end ∷ [] → AreLeftBelow (count + 1) callers rows more
  one_left count callers rows ends more caller row end at_caller at_row all one is =
      let number = all.number in record {
        number = let long = ap length is ∙ length_push ends end in omega (arith, long, number);
        each = λ host who lines left at_who at_lines at.
            elim (cases_lt host count) [
              | inl earlier ↦
                  all.each host who lines left at_who at_lines
                  (sym (before_end ends end host (omega (arith, earlier, number))) ∙ (ap (λ (l : List HostEnd). slice_get l host) (sym is) ∙ at))
              | inr from ↦
                  let within = slice_get_within more host left at in
                  let long = ap length is ∙ length_push ends end in
                  let last : host ≡ count = omega (arith, from, within, long, number) in
                  let left_is : end ≡ left = last_is ends end host left (omega (arith, last, number)) (ap (λ (l : List HostEnd). slice_get l host) (sym is) ∙ at) in
                  let who_is : caller ≡ who = one_at callers count caller who at_caller (subst (λ (h : ℕ). slice_get callers h ≡ Some who) last at_who) in
                  let lines_is : row ≡ lines = one_at rows count row lines at_row (subst (λ (h : ℕ). slice_get rows h ≡ Some lines) last at_lines) in
                  subst (λ (h : ℕ). IsLeftOf h who.places lines left) (sym last)
                  (subst (λ (c : CallerView). IsLeftOf count c.places lines left) who_is
                  (subst (λ (l : List (LineView E WriterView)). IsLeftOf count caller.places l left) lines_is
                  (subst (λ (e : HostEnd). IsLeftOf count caller.places row e) left_is one)))
            ];
      }
    where
      before_end : (ends : List HostEnd) (end : HostEnd) (i : ℕ) → i < length ends → slice_get (ends ++ end ∷ []) i ≡ slice_get ends i
      before_end [] end i within = absurd (omega (arith, within))
      before_end (e ∷ ends) end zero within = refl
      before_end (e ∷ ends) end (suc i) within = before_end ends end i (omega (arith, within))

      last_is : (ends : List HostEnd) (end : HostEnd) (i : ℕ) (left : HostEnd) → i ≡ length ends → slice_get (ends ++ end ∷ []) i ≡ Some left → end ≡ left
      last_is [] end zero left is at = same_Some end left at
      last_is [] end (suc i) left is at = absurd (omega (arith, is))
      last_is (e ∷ ends) end zero left is at = absurd (omega (arith, is))
      last_is (e ∷ ends) end (suc i) left is at = last_is ends end i left (omega (arith, is)) at

  -- a host's end was added, if all steps went well
  pub added : {X : Type 0} (count : ℕ) (callers : List CallerView) (rows : List (List (LineView E WriterView))) (ends more : List HostEnd) (caller : CallerView)
      (row : List (LineView E WriterView)) (result : Result HostEnd Memory) (before pushed after : Result X Memory) → slice_get callers count ≡ Some caller →
      slice_get rows count ≡ Some row → OnOk before (AreLeftBelow count callers rows ends) → IfOk result (IsLeftOf count caller.places row) →
      OnOk pushed ((end : HostEnd) × (result ≡ Ok end) × (more ≡ ends ++ end ∷ [])) → after ≡ result_and before pushed →
      OnOk after (AreLeftBelow (count + 1) callers rows more)
  added {X} count callers rows ends more caller row result before pushed after at_caller at_row all one push is =
      subst (λ (r : Result X Memory). OnOk r (AreLeftBelow (count + 1) callers rows more)) (sym is) (go before pushed all push)
    where
      go : (before pushed : Result X Memory) → OnOk before (AreLeftBelow count callers rows ends) →
          OnOk pushed ((end : HostEnd) × (result ≡ Ok end) × (more ≡ ends ++ end ∷ [])) → OnOk (result_and before pushed) (AreLeftBelow (count + 1) callers rows more)
      go (Ok x) (Ok y) all (end, is, made) =
          one_left count callers rows ends more caller row end at_caller at_row all
          (subst (λ (r : Result HostEnd Memory). IfOk r (IsLeftOf count caller.places row)) is one) made
      go (Ok x) (Err e) all push = tt
      go (Err e) pushed all push = tt

-- where two lists are gone through together
pub record AreAt {X Y : Type 0} (xs : List X) (ys : List Y) (n : ℕ) (x : X) (y : Y) : Type 0 where
  pub within : n < length xs
  pub within_other : n < length ys
  pub first : slice_get xs n ≡ Some x
  pub second : slice_get ys n ≡ Some y

pub zipped_at : {X Y : Type 0} (xs : List X) (ys : List Y) (n : ℕ) (x : X) (y : Y) → n < length (zip xs ys) → (x, y) ≡ get_or (zip xs ys) n (x, y) → AreAt xs ys n x y
zipped_at [] ys n x y within is = absurd (omega (arith, within))
zipped_at (a ∷ xs) [] n x y within is = absurd (omega (arith, within))
zipped_at {X} {Y} (a ∷ xs) (b ∷ ys) zero x y within is =
    record {
      within = omega arith;
      within_other = omega arith;
      first = ap (λ (p : X × Y). Some p.0) (sym is);
      second = ap (λ (p : X × Y). Some p.1) (sym is);
    }
zipped_at (a ∷ xs) (b ∷ ys) (suc n) x y within is =
    let later = zipped_at xs ys n x y (omega (arith, within)) is in
    let rest = later.within in
    let rest_other = later.within_other in
    record { within = omega (arith, rest); within_other = omega (arith, rest_other); first = later.first; second = later.second }

pub zipped_all : {X Y : Type 0} (xs : List X) (ys : List Y) → length ys ≡ length xs → length (zip xs ys) ≡ length xs
zipped_all [] ys same = refl
zipped_all (a ∷ xs) [] same = absurd (omega (arith, same))
zipped_all (a ∷ xs) (b ∷ ys) same = let rest = zipped_all xs ys (omega (arith, same)) in omega (arith, rest)
