-- What the clients of a kept board are told.
use Rattle.std.proofs.Common.{◌++◌, ◌∷◌, [], ◌+◌, ◌-◌, List, length, ap, ◌∙◌}
use Rattle.edit_stamps.specs.Edit.{PlaneEdit}
use Rattle.board.proofs.Fronts.{prefix_get}
use Rattle.board.specs.declared.entry.Entry.{Entry}
use Rattle.board.specs.Origins.{list_of}
use Rattle.relay_board.specs.Seating.{BeginsWithAll, Seating}
use Rattle.seat_server.proofs.OneListLaws.{counts_all, seats_told}
use Rattle.board_keeper.proofs.Files.{begins_with}
use Rattle.kept_server.specs.Serving.{TellsOfKeptList}

-- a list that begins with what all seats have seen begins with what the first of them have
begins_first : (list : List Entry) (some more : List Seating) → BeginsWithAll list (some ++ more) → BeginsWithAll list some
begins_first list some more all k s stands = all k s (prefix_get some (some ++ more) k s (begins_with some more) stands)

pub tells_of_kept_list : TellsOfKeptList
tells_of_kept_list board seats file f handed s = record {
  long = ap (λ n. n + length f.account.published) s.whole.account.before
      ∙ (ap (λ (es : List PlaneEdit). length (list_of f.account.front) - 1024 + length es) s.whole.account.published ∙ counts_all (list_of f.account.front));
  told = seats_told (list_of f.account.front) seats s.served.visits s.after handed s.served.attended
      (begins_first (list_of f.account.front) s.after (file ∷ []) s.whole.seen);
}
