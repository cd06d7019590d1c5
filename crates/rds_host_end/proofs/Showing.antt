-- What the joins of a queue's putters show of its getter.
use Rattle.std.proofs.Common.{◌≡◌, ℕ, List, [], ◌++◌, Option, map, sym, ap, subst, ◌∙◌, arith}
use mathlib.Core.Option.{some-ne-none}
use Rattle.rds_seats.specs.Views.{Each}
use Rattle.rds_mail.specs.declared.view.Account.{Account}
use Rattle.rds_mail.specs.Merging.{IsMerged, KeysBegin}
use Rattle.rds_mail.specs.Numbers.{Number, Numbered}
use Rattle.rds_mail.specs.Passes.{Getter, Putter, account_of, with_joined}
use Rattle.rds_mail.specs.Shared.{IsPart}
use Rattle.rds_host_end.specs.Joins.{AreMarked, KeysAre, PutsAreTold}
use Rattle.rds_host_end.specs.Shown.{ShowsAllPuts}

module _ {T : Type 0} (key : T → Option ℕ) (Own : ℕ → T → Type 0) where
  -- what joined putters show of what was got, with what notes told
  pub record AreFacts (got : List (Numbered T)) (told puts : List (Account T)) : Type 0 where
    pub merged : IsMerged got puts
    pub begin : (mark : Number → ℕ) → AreMarked Own mark puts → KeysBegin key mark got puts
    pub all : (mark : Number → ℕ) → AreMarked Own mark puts → Each told (IsPart got) → PutsAreTold told puts → KeysAre key mark got puts

  pub shown_by : (g new : Getter T) (puts : List (Putter T)) → new ≡ with_joined g (map account_of puts) → g.joined ≡ [] → AreFacts new.got new.told new.joined → ShowsAllPuts key Own g puts
  shown_by g new puts is none facts =
      let joined : new.joined ≡ map account_of puts = ap (λ (x : Getter T). x.joined) is ∙ ap (λ (l : List (Account T)). l ++ map account_of puts) none in
      let known : AreFacts g.got g.told (map account_of puts) =
      subst (λ (l : List (Account T)). AreFacts g.got g.told l) joined
      (subst (λ (l : List (Account T)). AreFacts g.got l new.joined) (ap (λ (x : Getter T). x.told) is)
      (subst (λ (l : List (Numbered T)). AreFacts l new.told new.joined) (ap (λ (x : Getter T). x.got) is) facts)) in
      record {
        begin = known.begin;
        all = known.all;
        merged = λ enough. known.merged;
      }

  nothing_shown : (g : Getter T) → ShowsAllPuts key Own g []
  nothing_shown g = record {
    begin = λ mark marked i a at. absurd (some-ne-none a (sym at));
    all = λ mark marked parts told i a at. absurd (some-ne-none a (sym at));
    merged = λ enough. absurd (omega arith);
  }

  -- no putter shows nothing
  pub shown_by_none : (g : Getter T) (puts : List (Putter T)) → puts ≡ [] → ShowsAllPuts key Own g puts
  shown_by_none g puts none = subst (λ (l : List (Putter T)). ShowsAllPuts key Own g l) (sym none) (nothing_shown g)
