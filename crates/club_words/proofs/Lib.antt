mod Read
