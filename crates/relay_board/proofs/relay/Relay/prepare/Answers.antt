use Rattle.std.proofs.Common.{◌≡◌, length, ap, arith}
use Rattle.std.proofs.lemmas.List.{length-map}
use Rattle.stamped_tree.specs.Plane.{map_of}
use Rattle.inbox.specs.declared.submission.Submission.{Submission}
use Rattle.relay_board.specs.Kept.{kept_of}
use Rattle.relay_board.specs.Relaying.{Relaying}
use Rattle.relay_board.proofs.Trying.{tried_next}
use Rattle.relay_board.proofs.relay.Relay.prepare.Goals as goal

pub invariant_of-self-in-Ok : goal.invariant_of-self-in-Ok
invariant_of-self-in-Ok g c =
    let s = c.self.inside in
    let i = c.self.invariant in
    let joined = c.in-Ok.ensures.ok in
    let long : length (kept_of s.kept.items) ≡ length s.kept.items = length-map s.kept.items (λ (x : Submission). x.entry) in
    let ready : s.ready ≡ c.args.self.now.ready = ap (λ (r : Relaying). r.ready) c.self.view_is in
    let kept : length (kept_of s.kept.items) ≡ length c.args.self.now.kept = ap (λ (r : Relaying). length r.kept) c.self.view_is in
    let all = i.ready.all_but_one in record {
      out = i.out;
      told = i.told;
      ready = record {
        most = omega (arith, ready, c.requires.most);
        within = omega (arith, ready, kept, long, c.requires.one);
        all_but_one = omega (arith, all);
        tried = tried_next (map_of s.tried) (map_of c.joined.new.plane) s.ready joined.0 (kept_of s.kept.items) s.publisher.list joined.1 i.ready.tried joined.2;
      };
      room = i.room;
      label = i.label;
      kept = i.kept;
      tallies = i.tallies;
      made = i.made;
      origin = i.origin;
      inbox = i.inbox;
      known = i.known;
    }
