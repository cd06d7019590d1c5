-- The reader of a route, where there is one.
use Rattle.std.proofs.Common.{◌≡◌, ℕ, List, [], ◌∷◌, Option, Some, sym, subst, arith}
use Rattle.std.specs.Option.{option_to_list}
use Rattle.std.proofs.lemmas.List.Elements.{All-cons, All-nil}
use Rattle.rds_fmap.specs.Readers.{ReaderView, WriterView}
use Rattle.rds_socket_parts.specs.Lanes.{Lane}
use Rattle.rds_host_end.specs.Shown.{AreReadersOf, HasLookedAt, HaveLookedAt}

pub one_looked : (published : List (List ℕ)) (route : Option (Lane ReaderView)) (lane : Lane ReaderView) → route ≡ Some lane → HasLookedAt published lane.reader →
    HaveLookedAt published (option_to_list route)
one_looked published route lane is looked =
    subst (λ (o : Option (Lane ReaderView)). HaveLookedAt published (option_to_list o)) (sym is)
    (All-cons (λ (l : Lane ReaderView). HasLookedAt published l.reader) lane [] looked (All-nil (λ (l : Lane ReaderView). HasLookedAt published l.reader)))

pub one_reader : (w : WriterView) (route : Option (Lane ReaderView)) (lane : Lane ReaderView) → route ≡ Some lane → AreReadersOf w (option_to_list route) → lane.reader.pair ≡ w.pair
one_reader w route lane is all =
    let only : AreReadersOf w (lane ∷ []) = subst (λ (o : Option (Lane ReaderView)). AreReadersOf w (option_to_list o)) is all in
    only 0 lane (omega arith)
