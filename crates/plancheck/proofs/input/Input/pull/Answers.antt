use Rattle.std.proofs.Common.{take, arith, length-take-le}
use Rattle.std.proofs.lemmas.Result.{err_from_is_err_and}
use Rattle.plancheck.proofs.Pieces.{places_kept, room_left, some_room, front_kept, piece_added}
use Rattle.plancheck.proofs.input.Input.pull.Goals as goal

pub invariant_of-self : goal.invariant_of-self
invariant_of-self g c =
    let i = c.args.self.now in
    record { places = places_kept i.count i.bytes c.deliver.new.buf i.places c.deliver.auto.buf; room = i.room }

pub returns-in_err-n : goal.returns-in_err-n
returns-in_err-n g c =
    let i = c.args.self.now in
    let p = err_from_is_err_and c.from_residual.result c.from_residual.ensures.1 in
    rw p.1 (front_kept i.count i.bytes c.deliver.new.buf i.places i.room)

pub invariant_of-self-2 : goal.invariant_of-self-2
invariant_of-self-2 g c =
    let i = c.args.self.now in
    let ys = c.deliver.new.buf in
    let few = room_left i.count c.in_ok-n.n i.bytes ys i.places i.room c.deliver.auto.buf c.in_ok-n.ensures.0 in
    record { places = places_kept i.count i.bytes ys i.places c.deliver.auto.buf; room = omega (arith, few) }

pub returns : goal.returns
returns g c =
    let i = c.args.self.now in
    let n = c.in_ok-n.n in
    let ys = c.deliver.new.buf in
    let few = c.in_ok-n.ensures.0 in
    record {
      piece = take n ys;
      size = length-take-le n ys few;
      given = c.in_ok-n.ensures.1 (some_room i.count i.bytes ys i.places c.requires c.deliver.auto.buf);
      after = piece_added i.count n i.bytes ys i.places i.room few;
    }
