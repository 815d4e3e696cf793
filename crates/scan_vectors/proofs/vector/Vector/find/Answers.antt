use Rattle.std.proofs.Common.{◌+◌, ◌-◌, arith}
use Rattle.scan_vectors.specs.Held.{fields}
use Rattle.scan_vectors.proofs.Places.{length-vector, in_header, in_body, in_trailer}
use Rattle.scan_vectors.proofs.vector.Vector.find.Goals as goal

pub returns-then-i-self-clause-whole : goal.returns-then-i-self-clause-whole
returns-then-i-self-clause-whole c =
    let v = c.args.self.now in
    let n = length-vector (fields v.header) (fields v.body) (fields v.trailer) in omega (arith, n)

pub returns-then-i-self-clause-bits : goal.returns-then-i-self-clause-bits
returns-then-i-self-clause-bits c = λ j l.
    let v = c.args.self.now in
    in_header (fields v.header) (fields v.body) (fields v.trailer) (c.args.i + j) l

pub returns-then-i-self-2-clause-whole : goal.returns-then-i-self-2-clause-whole
returns-then-i-self-2-clause-whole c =
    let v = c.args.self.now in
    let n = length-vector (fields v.header) (fields v.body) (fields v.trailer) in omega (arith, n)

pub returns-then-i-self-2-clause-bits : goal.returns-then-i-self-2-clause-bits
returns-then-i-self-2-clause-bits c = λ j l.
    let v = c.args.self.now in
    in_body (fields v.header) (fields v.body) (fields v.trailer) (c.args.i + j) (c.args.i - v.header.len + j) (omega arith) l

pub returns-else-i-self-2-clause-whole : goal.returns-else-i-self-2-clause-whole
returns-else-i-self-2-clause-whole c =
    let v = c.args.self.now in
    let n = length-vector (fields v.header) (fields v.body) (fields v.trailer) in omega (arith, n)

pub returns-else-i-self-2-clause-bits : goal.returns-else-i-self-2-clause-bits
returns-else-i-self-2-clause-bits c = λ j l.
    let v = c.args.self.now in
    in_trailer (fields v.header) (fields v.body) (fields v.trailer) (c.args.i + j) (c.args.i - v.header.len - v.body.len + j) (omega arith) l

pub returns-else-i-self-2-clause-inside : goal.returns-else-i-self-2-clause-inside
returns-else-i-self-2-clause-inside c =
    let v = c.args.self.now in
    let n = length-vector (fields v.header) (fields v.body) (fields v.trailer) in omega (arith, n)
