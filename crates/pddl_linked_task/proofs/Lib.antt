pub mod OnceNamed
